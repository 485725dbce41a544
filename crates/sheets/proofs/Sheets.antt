-- What the questions come to on a sheet.
use Rattle.std.proofs.Common.{◌≡◌, ℕ, ◌+◌, ◌<◌, ◌≤◌, Bool, true, false, cond, ◌||◌, eqb, ltb, List, [], ◌∷◌, ◌++◌, length, pos, is_some, IsOkAnd, subst, Some, None, Ok, Err, Option, MatchOption, Result, MatchResult, position, slice_get, get_or, sym, refl, ap, ◌∙◌, arith}
use Rattle.std.specs.List.{position_from, ContainsAt as Has}
use Rattle.std.proofs.lemmas.Iterator.Adapters.{position_from-zero}
use Rattle.std.proofs.lemmas.List.Quantifiers.{position-Some}
use Rattle.std.proofs.lemmas.Option.{get_or_from_slice_get, slice_get-get_or}
use lib.Ieee.{Float}
use Rattle.std.proofs.lemmas.Bool.{cond-true, cond-false, lt-ltb, le-ltb, eqb-true}
use Rattle.std.proofs.lemmas.List.{get_or-map, length-map, map_push}
use Rattle.exact.specs.Fraction.{Fraction}
use Rattle.readers.specs.Meaning.{Steps, Reading, Keeps}
use Rattle.sheets.specs.declared.fault.SheetFault.{SheetFault}
use Rattle.sheets.specs.declared.fault.SheetFault.TheVariants.{Taken, Absent, Full}
use Rattle.sheets.specs.declared.book.Call.TheVariants.{RowOf}
use Rattle.sheets.specs.declared.reply.Reply.{Reply}
use Rattle.sheets.specs.declared.reply.Reply.TheVariants.{Shown}
use Rattle.shares.specs.declared.share.Shares.{Shares}
use Rattle.sheets.specs.declared.book.Entry.{Entry}
use Rattle.sheets.specs.declared.row.Row.{Row}
use Rattle.sheets.specs.Ledger.{Ledger, ledger}
use Rattle.sheets.specs.Rows.{samples, among, distinct, row_totals}
use Rattle.sheets.specs.Book.{may_enter, may_correct, may_withdraw}
use Rattle.sheets.specs.Replies.{Answer}
use Rattle.sheets.specs.Rewrite.{entry_row}
use Rattle.sheets.specs.Runs.{filled}
use Rattle.sheets.specs.Sheets.{row_for}
use Rattle.shares.specs.Share.{sine_share, cosine_share}
use Rattle.sheets.proofs.Bools.{found_among, distinct_push}
use Rattle.sheets.proofs.Orders.{eqb-sym, Found}

-- any row
abbrev pub none_row : Row
none_row = record { sample = 0; speed = 0; word = 0; sine = pos 0; cosine = pos 0 }

-- a table that shows a list's ledger keeps its own totals
pub kept : (t : Ledger) (rows : List Row) → t ≡ ledger rows → t.totals ≡ row_totals t.rows
kept t rows e = ap (λ (l : Ledger). l.totals) e ∙ sym (ap (λ (l : Ledger). row_totals l.rows) e)

pub has-angle : (o : Steps) (a : Reading) (x : ℕ × Float) → Keeps o a → Ok x ≡ a → (u : Fraction) × (o ≡ Some u)
has-angle None (Ok y) x k e = absurd k
has-angle None (Err f) x k e = absurd (let z : ◌≡◌ {A = ℕ} 0 1 = cc in omega arith)
has-angle (Some u) a x k e = (u, refl)

pub there : (rows : List Row) (s i : ℕ) → Found s rows i → among s (samples rows) ≡ true
there rows s i f = found_among s (samples rows) i (omega (arith, f.within, length-map rows (λ (r : Row). r.sample))) f.same

pub has_there : (rs : List Row) (r : Row) (s : ℕ) → r.sample ≡ s → Has rs r → among s (samples rs) ≡ true
has_there rs r s e h = there rs s h.0 (record { within = h.1; same = get_or-map (λ (x : Row). x.sample) rs h.0 r 0 h.1 ∙ ap (λ (x : Row). x.sample) (h.2 r) ∙ e })

-- a sample has a place exactly if it stands
at-first : (s : ℕ) (rows : List Row) (i : ℕ) → is_some (position_from (λ r. eqb r.sample s) i rows) ≡ among s (samples rows)
at-first s [] i = refl
at-first s (r ∷ rows) i =
    let rest = position_from (λ (r : Row). eqb r.sample s) (i + 1) rows in
    let go : (t : Bool) → is_some (cond t (Some i) rest) ≡ (t || among s (samples rows)) = λ t. elim t as (λ t. is_some (cond t (Some i) rest) ≡ (t || among s (samples rows))) [ true ↦ refl | false ↦ at-first s rows (i + 1) ] in
    go (eqb r.sample s) ∙ ap (λ t. t || among s (samples rows)) (eqb-sym r.sample s)

pub place-among : (s : ℕ) (rows : List Row) (o : Option ℕ) → o ≡ position (λ r. eqb r.sample s) rows → is_some o ≡ among s (samples rows)
place-among s rows o e = ap is_some (e ∙ position_from-zero (λ (r : Row). eqb r.sample s) rows) ∙ at-first s rows 0

pub place-found : (s : ℕ) (rows : List Row) (i : ℕ) → Some i ≡ position (λ r. eqb r.sample s) rows → Found s rows i
place-found s rows i e =
    let p = position-Some (λ (r : Row). eqb r.sample s) rows i none_row (sym e) in
    record { within = p.0; same = get_or-map (λ (r : Row). r.sample) rows i none_row 0 p.0 ∙ eqb-true _ s p.1 }

-- the row at a sample's place is one of that sample
pub row-there : (s : ℕ) (rows : List Row) (i : ℕ) (r : Option Row) → Found s rows i → r ≡ slice_get rows i → MatchOption r (among s (samples rows) ≡ false) (λ row. (row.sample ≡ s) × Has rows row)
row-there s rows i r f e =
    let here : slice_get rows i ≡ Some (get_or rows i none_row) = slice_get-get_or rows i none_row f.within in
    subst (λ r. MatchOption r (among s (samples rows) ≡ false) (λ row. (row.sample ≡ s) × Has rows row)) (sym (e ∙ here))
    (sym (get_or-map (λ (r : Row). r.sample) rows i none_row 0 f.within) ∙ f.same, (i, f.within, λ d. get_or_from_slice_get rows i (get_or rows i none_row) d here))

module _ (o : Steps) (u : Fraction) (angle : o ≡ Some u) (ss : List ℕ) (s : ℕ) where
  pub enter-taken : among s ss ≡ true → Err Taken ≡ may_enter o ss s
  enter-taken h = sym (ap (λ p. may_enter p ss s) angle ∙ cond-true (among s ss) _ _ h)

  pub enter-full : among s ss ≡ false → 256 ≤ length ss → Err Full ≡ may_enter o ss s
  enter-full h l = sym (ap (λ p. may_enter p ss s) angle ∙ cond-false (among s ss) _ _ h ∙ cond-false (ltb (length ss) 256) _ _ (le-ltb (length ss) 256 l))

  pub enter-ok : among s ss ≡ false → length ss < 256 → Ok tt ≡ may_enter o ss s
  enter-ok h l = sym (ap (λ p. may_enter p ss s) angle ∙ cond-false (among s ss) _ _ h ∙ cond-true (ltb (length ss) 256) _ _ (lt-ltb (length ss) 256 l))

pub distinct_more : (rows more : List Row) (r : Row) → more ≡ rows ++ r ∷ [] → distinct (samples rows) ≡ true → among r.sample (samples rows) ≡ false → distinct (samples more) ≡ true
distinct_more rows more r e d a = ap (λ l. distinct (samples l)) e ∙ ap distinct (map_push (λ r. r.sample) rows r) ∙ distinct_push r.sample (samples rows) d a

pub row_made : (answer : ℕ → Reading) (x : Entry) (s : Shares) (k : ℕ) (y : Float) → Ok (k, y) ≡ answer x.word → s.sine ≡ sine_share k y → s.cosine ≡ cosine_share k y → entry_row x s ≡ filled answer x
row_made answer x s k y e p q = (λ i. record { sample = x.sample; speed = x.speed; word = x.word; sine = p i; cosine = q i }) ∙ ap (λ a. row_for a x.sample x.speed x.word) e

pub correct_ok : (o : Steps) (u : Fraction) (angle : o ≡ Some u) (ss : List ℕ) (s : ℕ) → among s ss ≡ true → Ok tt ≡ may_correct o ss s
correct_ok o u angle ss s h = sym (ap (λ p. may_correct p ss s) angle ∙ cond-true (among s ss) _ _ h)

pub withdraw_ok : (ss : List ℕ) (s : ℕ) → among s ss ≡ true → Ok tt ≡ may_withdraw ss s
withdraw_ok ss s h = sym (cond-true (among s ss) _ _ h)

pub withdraw_absent : (ss : List ℕ) (s : ℕ) → among s ss ≡ false → Err Absent ≡ may_withdraw ss s
withdraw_absent ss s h = sym (cond-false (among s ss) _ _ h)

pub correct_absent : (o : Steps) (u : Fraction) (angle : o ≡ Some u) (ss : List ℕ) (s : ℕ) → among s ss ≡ false → Err Absent ≡ may_correct o ss s
correct_absent o u angle ss s h = sym (ap (λ p. may_correct p ss s) angle ∙ cond-false (among s ss) _ _ h)

-- the answer to a question for a sample's row
pub shown : (steps : ℕ → Steps) (r : Result Row SheetFault) (q : Result Reply SheetFault) (rs : List Row) (s : ℕ) → MatchResult r (λ row. (row.sample ≡ s) × Has rs row) (λ e. (e ≡ Absent) × (among s (samples rs) ≡ false))
    → MatchResult r (λ row. IsOkAnd q (λ y. y ≡ Shown row)) (λ e. q ≡ Err e) → Answer steps rs (RowOf s) q rs
shown steps (Ok row) (Ok y) rs s h m = (sym (withdraw_ok (samples rs) s (has_there rs row s h.0 h.1)), (row, m, h.1, h.0, refl))
shown steps (Ok row) (Err e) rs s h m = absurd m
shown steps (Err e) q rs s h m = subst (λ q. Answer steps rs (RowOf s) q rs) (sym m) (sym (ap Err h.0 ∙ withdraw_absent (samples rs) s h.1), refl)
