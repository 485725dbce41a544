-- What the rows of a record come to.
use Rattle.std.proofs.Common.{◌≡◌, ℕ, ◌<◌, List, [], ◌∷◌, map, length, ℤ, pos, ◌*ℤ◌, Ok, Err, Option, Result, sym, refl, ap, ◌∙◌, arith}
use Rattle.std.proofs.lemmas.List.{length-map}
use Rattle.readers.specs.Meaning.{Reading}
use Rattle.sheets.specs.declared.book.Entry.{Entry}
use Rattle.sheets.specs.declared.row.Row.{Row}
use Rattle.sheets.specs.Rows.{speed_of, along_of, across_of}
use Rattle.sheets.specs.Runs.{filled}
use Rattle.sheets.proofs.Sums.{length-order, sum_by_order, folded-order}
use Rattle.record.specs.declared.edition.Edition.{Edition}
use Rattle.record.specs.declared.edition.Mount.{Mount}
use Rattle.record.specs.declared.fault.Cause.{Cause}
use Rattle.record.specs.declared.fault.Cause.TheVariants.{Tag}
use Rattle.record.specs.declared.fault.RecordFault.{RecordFault}
use Rattle.record.specs.declared.fields.Field.{Field}
use Rattle.record.specs.declared.state.State.TheVariants as state
use Rattle.record.specs.declared.tally.Tally.{Tally}
use Rattle.record.specs.Fields.{and_then}
use Rattle.record.specs.Record.{fields_of, replay, edition_of, mount_of, tally_of, tallied, record_tally}
use Rattle.record.specs.Reached.{Follows}
use Rattle.record.proofs.Replay.{fields-first, fields-none}

pub tally-refused : (answer : ℕ → Reading) (rows : List Row) (outcome : Result (List Entry) RecordFault) (e : Edition) (f : RecordFault) → Follows answer rows outcome (Err f) → Err f ≡ and_then outcome (λ book. Ok (tally_of e answer book))
tally-refused answer rows (Ok book) e f h = absurd h
tally-refused answer rows (Err g) e f h = ap Err (sym h)

tally-is : (e : Edition) (n n' s s' : ℕ) (a a' b b' : ℤ) → n ≡ n' → s ≡ s' → a ≡ a' → b ≡ b' → ◌≡◌ {A = Tally} (record { edition = e; rows = n; totals = record { speed = s; along = a; across = b } }) (record { edition = e; rows = n'; totals = record { speed = s'; along = a'; across = b' } })
tally-is e n n' s s' a a' b b' p q r t i = record { edition = e; rows = p i; totals = record { speed = q i; along = r i; across = t i } }

pub tally-made : (answer : ℕ → Reading) (rows : List Row) (outcome : Result (List Entry) RecordFault) (e : Edition) (n s : ℕ) (a b : ℤ) → Follows answer rows outcome (Ok tt) → n ≡ length rows → s ≡ speed_of rows → a ≡ along_of rows → b ≡ across_of rows
    → Ok (record { edition = e; rows = n; totals = record { speed = s; along = a; across = b } }) ≡ and_then outcome (λ book. Ok (tally_of e answer book))
tally-made answer rows (Err g) e n s a b h p q r t = absurd h
tally-made answer rows (Ok book) e n s a b h p q r t =
    ap Ok (tally-is e n (length book) s (speed_of (map (filled answer) book)) a (along_of (map (filled answer) book)) b (across_of (map (filled answer) book))
    (p ∙ length-order h.order ∙ length-map book (filled answer))
    (q ∙ sum_by_order (λ (r : Row). r.speed) h.order)
    (r ∙ folded-order (λ (r : Row). pos r.speed *ℤ r.cosine) (pos 0) h.order)
    (t ∙ folded-order (λ (r : Row). pos r.speed *ℤ r.sine) (pos 0) h.order))

-- a record that is not empty, by its fields
pub record-by : (bytes : List ℕ) → 0 < length bytes → record_tally bytes ≡ tallied (edition_of (fields_of bytes)) (mount_of (fields_of bytes)) (fields_of bytes)
unfolding record_tally
record-by [] h = absurd (omega arith)
record-by (b ∷ bs) h = refl

-- one with no field is empty
pub record-none : (bytes : List ℕ) → fields_of bytes ≡ [] → Err (record { cause = Tag; offset = 0 }) ≡ record_tally bytes
unfolding record_tally
record-none [] h = refl
record-none (b ∷ bs) h =
    let f = fields-first (length (b ∷ bs)) state.Edition (length (b ∷ bs)) (b ∷ bs) (omega arith) (omega arith) in
    absurd (omega (arith, ap length (sym f.2 ∙ h)))

-- and one with a field is not
pub record-there : (bytes : List ℕ) (f : Field) (more : List Field) → fields_of bytes ≡ f ∷ more → 0 < length bytes
record-there [] f more h = absurd (omega (arith, ap length (sym (fields-none 0 state.Edition 0) ∙ h)))
record-there (b ∷ bs) f more h = omega arith

-- where the first field is refused, the record is, there and so
pub record-refused : (bytes : List ℕ) (f : Field) (c : Cause) (more : List Field) → fields_of bytes ≡ f ∷ more → f.said ≡ Err c → Err (record { cause = c; offset = f.at }) ≡ record_tally bytes
unfolding replay
record-refused bytes f c more h refused =
    let told : List Field → Result Tally RecordFault = λ l. tallied (edition_of l) (mount_of l) l in
    sym (record-by bytes (record-there bytes f more h) ∙ ap told h ∙ ap (λ s. told (record { at = f.at; said = s } ∷ more)) refused)

-- the whole record, by what its fields say of its module
pub told-is : (bytes : List ℕ) (f : Field) (more : List Field) (e : Edition) (m : Option Mount) → fields_of bytes ≡ f ∷ more → e ≡ edition_of (f ∷ more) → m ≡ mount_of (f ∷ more) → tallied e m (f ∷ more) ≡ record_tally bytes
told-is bytes f more e m h isEdition isMount =
    ap (λ z. tallied z m (f ∷ more)) isEdition ∙ ap (λ z. tallied (edition_of (f ∷ more)) z (f ∷ more)) isMount
    ∙ sym (record-by bytes (record-there bytes f more h) ∙ ap (λ l. tallied (edition_of l) (mount_of l) l) h)
