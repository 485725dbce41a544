-- A field on the sheet and on the book.
use Rattle.std.proofs.Common.{◌≡◌, ℕ, zero, suc, ◌-◌, ◌<◌, ◌≤◌, List, [], ◌∷◌, length, Ok, Err, Result, sym, refl, ap, ◌∙◌, subst, arith}
use Rattle.readers.specs.Meaning.{Steps, Reading}
use Rattle.sheets.specs.declared.book.Call.{Call}
use Rattle.sheets.specs.declared.book.Entry.{Entry}
use Rattle.sheets.specs.declared.fault.SheetFault.{SheetFault}
use Rattle.sheets.specs.declared.row.Row.{Row}
use Rattle.sheets.specs.Book.{asked, written}
use Rattle.sheets.specs.Rows.{samples}
use Rattle.sheets.specs.Runs.{Grown}
use Rattle.sheets.proofs.Runs.{asked-alike, samples-order}
use Rattle.record.specs.declared.fault.Cause.{Cause}
use Rattle.record.specs.declared.fault.RecordFault.{RecordFault}
use Rattle.record.specs.declared.fields.Field.{Field}
use Rattle.record.specs.declared.item.Item.TheVariants.{Put}
use Rattle.record.specs.declared.state.State.{State}
use Rattle.record.specs.Refusals.{located}
use Rattle.record.specs.Fields.{and_then, Read, field_at}
use Rattle.record.specs.Record.{saying, following, fields, lifted, put, made, replay, first_mount, said_mount}
use Rattle.record.specs.Reached.{Follows}
use Rattle.record.proofs.Cuts.{field-shorter}

-- a call: the sheet's yes or no is the book's
pub put-follows : (steps : ℕ → Steps) (answer : ℕ → Reading) (book : List Entry) (rows after : List Row) (call : Call) (r : Result (Unit {0}) SheetFault) (offset : ℕ) → r ≡ asked steps (samples rows) call → Grown answer book rows → Grown answer (written steps book call) after
    → Follows answer after (located offset (put steps book (Put call))) (located offset (lifted r))
put-follows steps answer book rows after call r offset was old new =
    let go : (q : Result (Unit {0}) SheetFault) → Follows answer after (located offset (and_then (lifted q) (λ _. Ok (written steps book call)))) (located offset (lifted q)) =
    λ q. elim q as (λ q. Follows answer after (located offset (and_then (lifted q) (λ _. Ok (written steps book call)))) (located offset (lifted q))) [ Ok x ↦ new | Err e ↦ refl ] in
    subst (λ q. Follows answer after (located offset (and_then (lifted q) (λ _. Ok (written steps book call)))) (located offset (lifted r))) (was ∙ asked-alike steps call (samples-order answer rows book old.order)) (go r)

-- the fields of what is not empty
pub fields-first : (n : ℕ) (s : State) (total : ℕ) (bytes : List ℕ) → 0 < length bytes → length bytes ≤ n
    → (m : ℕ) × (length bytes ≤ suc m) × (fields n s total bytes ≡ record { at = total - length bytes; said = saying (field_at s bytes) } ∷ following (field_at s bytes) (λ f. fields m f.state total f.rest))
unfolding fields
fields-first n s total [] h l = absurd (omega arith)
fields-first zero s total (b ∷ bs) h l = absurd (omega arith)
fields-first (suc m) s total (b ∷ bs) h l = (m, l, refl)

pub fields-none : (n : ℕ) (s : State) (total : ℕ) → fields n s total [] ≡ []
unfolding fields
fields-none zero s total = refl
fields-none (suc n) s total = refl

pub fields-empty : (s : State) (total : ℕ) (bytes : List ℕ) → length bytes ≡ 0 → fields (length bytes) s total bytes ≡ []
fields-empty s total [] h = fields-none 0 s total
fields-empty s total (b ∷ bs) h = absurd (omega arith)

-- enough is enough: the number of fields that are asked for does not matter
pub fields-enough : (n m : ℕ) (s : State) (total : ℕ) (bytes : List ℕ) → length bytes ≤ n → length bytes ≤ m → fields n s total bytes ≡ fields m s total bytes
unfolding fields
fields-enough n m s total [] h l = fields-none n s total ∙ sym (fields-none m s total)
fields-enough zero m s total (b ∷ bs) h l = absurd (omega arith)
fields-enough (suc n) zero s total (b ∷ bs) h l = absurd (omega arith)
fields-enough (suc n) (suc m) s total (b ∷ bs) h l =
    let go : (r : Result Read Cause) → field_at s (b ∷ bs) ≡ r → following r (λ f. fields n f.state total f.rest) ≡ following r (λ f. fields m f.state total f.rest) =
    λ r. elim r as (λ r. field_at s (b ∷ bs) ≡ r → following r (λ f. fields n f.state total f.rest) ≡ following r (λ f. fields m f.state total f.rest)) [
      | Ok f ↦ λ e. fields-enough n m f.state total f.rest (omega (arith, field-shorter s (b ∷ bs) f e)) (omega (arith, field-shorter s (b ∷ bs) f e))
      | Err c ↦ λ e. refl
    ] in
    ap (λ l. record { at = total - length (b ∷ bs); said = saying (field_at s (b ∷ bs)) } ∷ l) (go (field_at s (b ∷ bs)) refl)

-- the first field, and those that are left after it
abbrev pub left-after : Result Read Cause → ℕ → List Field
left-after r total = following r (λ f. fields (length f.rest) f.state total f.rest)

pub fields-step : (s : State) (total : ℕ) (bytes : List ℕ) (r : Result Read Cause) → 0 < length bytes → field_at s bytes ≡ r
    → fields (length bytes) s total bytes ≡ record { at = total - length bytes; said = saying r } ∷ left-after r total
fields-step s total bytes r h e =
    let f = fields-first (length bytes) s total bytes h (omega arith) in
    let go : (q : Result Read Cause) → field_at s bytes ≡ q → following q (λ f'. fields f.0 f'.state total f'.rest) ≡ left-after q total =
    λ q. elim q as (λ q. field_at s bytes ≡ q → following q (λ f'. fields f.0 f'.state total f'.rest) ≡ left-after q total) [
      | Ok x ↦ λ i. fields-enough f.0 (length x.rest) x.state total x.rest (omega (arith, f.1, field-shorter s bytes x i)) (omega arith)
      | Err c ↦ λ i. refl
    ] in
    f.2 ∙ ap (λ q. record { at = total - length bytes; said = saying q } ∷ following q (λ f'. fields f.0 f'.state total f'.rest)) e
    ∙ ap (λ l. record { at = total - length bytes; said = saying r } ∷ l) (go r e)

-- the mount that the first of them says, from bytes on
pub first-said : (s : State) (total : ℕ) (bytes : List ℕ) (r : Result Read Cause) → field_at s bytes ≡ r → first_mount (fields (length bytes) s total bytes) ≡ said_mount (saying r)
unfolding field_at
first-said s total [] r e = ap first_mount (fields-none 0 s total) ∙ ap (λ q. said_mount (saying q)) e
first-said s total (b ∷ bs) r e = ap first_mount (fields-step s total (b ∷ bs) r (omega arith) e)

-- ---- a replay beside the sheet
module _ (steps : ℕ → Steps) (answer : ℕ → Reading) (outcome : Result (List Entry) RecordFault) (book : List Entry) (after : List Row) where
  -- a field that is taken
  pub replay-taken : (field : Field) (rest : List Field) → outcome ≡ replay steps book (field ∷ rest) → Follows answer after (made steps book field) (Ok tt) → (next : List Entry) × Grown answer next after × (outcome ≡ replay steps next rest)
  unfolding replay
  replay-taken field rest e F =
      let go : (q : Result (List Entry) RecordFault) → Follows answer after q (Ok tt) → outcome ≡ and_then q (λ b. replay steps b rest) → (next : List Entry) × Grown answer next after × (outcome ≡ replay steps next rest) =
      λ q. elim q as (λ q. Follows answer after q (Ok tt) → outcome ≡ and_then q (λ b. replay steps b rest) → (next : List Entry) × Grown answer next after × (outcome ≡ replay steps next rest))
      [ Ok b ↦ λ h i. (b, h, i) | Err f ↦ λ h _. absurd h ] in
      go (made steps book field) F e

  -- a field that is refused
  pub replay-refused : (field : Field) (rest : List Field) (f : RecordFault) → outcome ≡ replay steps book (field ∷ rest) → Follows answer after (made steps book field) (Err f) → Follows answer after outcome (Err f)
  unfolding replay
  replay-refused field rest f e F =
      let go : (q : Result (List Entry) RecordFault) → Follows answer after q (Err f) → outcome ≡ and_then q (λ b. replay steps b rest) → Follows answer after outcome (Err f) =
      λ q. elim q as (λ q. Follows answer after q (Err f) → outcome ≡ and_then q (λ b. replay steps b rest) → Follows answer after outcome (Err f))
      [ Ok b ↦ λ h _. absurd h | Err f' ↦ λ h i. subst (λ z. Follows answer after z (Err f)) (sym i) h ] in
      go (made steps book field) F e

  -- the end
  pub replay-over : (rest : List Field) → rest ≡ [] → outcome ≡ replay steps book rest → Grown answer book after → Follows answer after outcome (Ok tt)
  unfolding replay
  replay-over rest none e h = subst (λ z. Follows answer after z (Ok tt)) (sym (e ∙ ap (replay steps book) none)) h
