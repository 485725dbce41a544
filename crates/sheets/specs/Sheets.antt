-- A sheet by its rows, and what entering, correcting and withdrawing do to them. Definitions only.
use Rattle.std.specs.Prelude.{◌≡◌, ℕ, cond, not, List, map, ℤ, pos, Ok, Err, filter, Result, OnErr, ◌==◌}
use mathlib.Core.List.{Permᴰ}
use Rattle.readers.specs.Meaning.{Reading}
use Rattle.shares.specs.Share.{sine_share, cosine_share}
use Rattle.sheets.specs.declared.row.Row.{Row}
use Rattle.sheets.specs.declared.sheet.Sheet.{Sheet}
use Rattle.sheets.specs.declared.totals.Totals.{Totals}

-- the same elements, each as often, in any order
abbrev pub InAnyOrder : {X : Type 0} → List X → List X → Type 0
InAnyOrder xs ys = Permᴰ xs ys

-- the rows of a sheet, in the order of their places
abbrev pub rows : {R : Type 0} → Sheet R → List Row
rows s = s.table.rows

-- the totals that a sheet keeps
abbrev pub totals_of : {R : Type 0} → Sheet R → Totals
totals_of s = s.table.totals

-- a call changes the rows alone, and where it is refused nothing
pub record RowsAlone {R X E : Type 0} (result : Result X E) (old new : Sheet R) : Type 0 where
  pub reader : new.reader ≡ old.reader
  pub same : OnErr result (new ≡ old)

-- the sine share of what a reader answered
abbrev pub read_sine : Reading → ℤ
read_sine (Ok a) = sine_share a.0 a.1
read_sine (Err e) = pos 0

-- and the cosine share
abbrev pub read_cosine : Reading → ℤ
read_cosine (Ok a) = cosine_share a.0 a.1
read_cosine (Err e) = pos 0

-- the row of a sample, speed and word, by what the reader answered to the word
abbrev pub row_for : Reading → ℕ → ℕ → ℕ → Row
row_for a sample speed word = record { sample = sample; speed = speed; word = word; sine = read_sine a; cosine = read_cosine a }

-- the sample's row replaced
abbrev pub corrected : List Row → ℕ → Row → List Row
corrected rows s new = map (λ r. cond (r.sample == s) new r) rows

-- all rows but the sample's
abbrev pub without : List Row → ℕ → List Row
without rows s = filter (λ r. not (r.sample == s)) rows
