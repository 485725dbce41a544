-- What a sheet holds after any calls, and how near two sheets of the same motion are. Definitions only.
use Rattle.std.specs.Prelude.{◌≡◌, ℕ, ◌*◌, ◌^◌, List, [], ◌∷◌, map, length, Some, None, Ok, sum_by, Float}
use Rattle.std.specs.List.{ContainsAt as Has, AllByRecursion}
use Rattle.exact.specs.Fraction.{Fraction, ◌⊕◌, ◌⊗◌, whole, tiny, Within}
use Rattle.exact.specs.Value.{integer}
use Rattle.circle.specs.Circle.{exact_sine, exact_cosine, Alike}
use Rattle.readers.specs.Meaning.{Steps, Reading}
use Rattle.shares.specs.Share.{sine_share, cosine_share}
use Rattle.sheets.specs.declared.book.Call.{Call}
use Rattle.sheets.specs.declared.book.Entry.{Entry}
use Rattle.sheets.specs.declared.row.Row.{Row}
use Rattle.sheets.specs.declared.totals.Totals.{Totals}
use Rattle.sheets.specs.Book.{standing_after}
use Rattle.sheets.specs.Sheets.{InAnyOrder}

-- a row without its shares
abbrev pub plain : Row → Entry
plain r = record { sample = r.sample; speed = r.speed; word = r.word }

-- the cm/s standing
abbrev pub cms : List Entry → ℕ
cms book = sum_by (λ e. e.speed) book

-- f of a word's steps; 0 for no angle, which does not stand
abbrev pub of_steps : (Fraction → Fraction) → Steps → Fraction
of_steps f (Some u) = f u
of_steps f None = whole 0

-- the sum of f over a list
abbrev pub sum_f : {X : Type 0} → (X → Fraction) → List X → Fraction
sum_f f [] = whole 0
sum_f f (x ∷ xs) = f x ⊕ sum_f f xs

-- speed × 2 ^ 30 × f of the word's exact steps, summed over the book
abbrev pub exact_total : (Fraction → Fraction) → (ℕ → Steps) → List Entry → Fraction
exact_total f steps book = sum_f (λ e. whole e.speed ⊗ (whole (2 ^ 30) ⊗ of_steps f (steps e.word))) book

-- the exact total along, in units of 2 ^ -30 cm/s
abbrev pub exact_along : (ℕ → Steps) → List Entry → Fraction
exact_along steps book = exact_total exact_cosine steps book

-- and across
abbrev pub exact_across : (ℕ → Steps) → List Entry → Fraction
exact_across steps book = exact_total exact_sine steps book

-- the reader answers the row's word, and the row's shares are those of the answer
abbrev pub Shared : (ℕ → Reading) → Row → Type 0
Shared answer r = (a : ℕ × Float) × (answer r.word ≡ Ok a) × (r.sine ≡ sine_share a.0 a.1) × (r.cosine ≡ cosine_share a.0 a.1)

-- after the calls the rows are the book's, and the totals near its exact ones: within 33 for each cm/s standing
pub record Holds (steps : ℕ → Steps) (answer : ℕ → Reading) (calls : List Call) (rows : List Row) (totals : Totals) : Type 0 where
  pub order : InAnyOrder (map plain rows) (standing_after steps calls)
  pub count : length rows ≡ length (standing_after steps calls)
  pub speed : totals.speed ≡ cms (standing_after steps calls)
  pub shares : AllByRecursion (Shared answer) rows
  pub along : Within (integer totals.along) (exact_along steps (standing_after steps calls)) (whole (33 * cms (standing_after steps calls)))
  pub across : Within (integer totals.across) (exact_across steps (standing_after steps calls)) (whole (33 * cms (standing_after steps calls)))

-- two words' steps are within 2 ^ -17 of each other, whole turns aside
abbrev pub Agree : Steps → Steps → Type 0
Agree (Some u) (Some v) = Alike u v (tiny 17)
Agree (Some u) None = ⊥
Agree None (Some v) = ⊥
Agree None None = ⊥

-- each of the one book's rows has one of the other's, of the same sample and speed, whose word's steps agree
abbrev pub Matched : (ℕ → Steps) → (ℕ → Steps) → List Entry → List Entry → Type 0
Matched one other es fs = AllByRecursion (λ e. (f : Entry) × Has fs f × (f.sample ≡ e.sample) × (f.speed ≡ e.speed) × Agree (one e.word) (other f.word)) es

-- the same samples stand after both lists of calls, at the same speeds and at steps that agree
pub record SameMotion (one : ℕ → Steps) (calls : List Call) (other : ℕ → Steps) (others : List Call) : Type 0 where
  pub there : Matched one other (standing_after one calls) (standing_after other others)
  pub back : Matched other one (standing_after other others) (standing_after one calls)
