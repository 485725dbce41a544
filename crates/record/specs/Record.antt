-- What a record says: its fields in their order, and the outcome of the questions put to them. Definitions only.
use Rattle.std.specs.Prelude.{ℕ, zero, suc, ◌-◌, Bool, true, false, List, [], ◌∷◌, map, length, Some, None, Ok, Err, Option, Result}
use Rattle.readers.specs.Meaning.{Steps, Reading, turned_steps, turned_answer, mirrored_steps, mirrored_answer}
use Rattle.readers.specs.Quarters.{quarter_count}
use Rattle.readers.specs.Editions.{radian_meaning, radian_answer, half_turn_meaning, half_turn_answer}
use Rattle.sheets.specs.declared.book.Entry.{Entry}
use Rattle.sheets.specs.declared.fault.SheetFault.{SheetFault}
use Rattle.sheets.specs.Book.{asked, given, written}
use Rattle.sheets.specs.Rows.{speed_of, along_of, across_of}
use Rattle.sheets.specs.Runs.{filled}
use Rattle.record.specs.declared.edition.Edition.{Edition}
use Rattle.record.specs.declared.edition.Edition.TheVariants as edition
use Rattle.record.specs.declared.edition.Mount.{Mount}
use Rattle.record.specs.declared.fault.Cause.{Cause}
use Rattle.record.specs.declared.fault.Cause.TheVariants.{Tag, Refused}
use Rattle.record.specs.declared.fault.RecordFault.{RecordFault}
use Rattle.record.specs.declared.fields.Field.{Field}
use Rattle.record.specs.declared.item.Item.{Item}
use Rattle.record.specs.declared.item.Item.TheVariants as item
use Rattle.record.specs.declared.state.State.{State}
use Rattle.record.specs.declared.state.State.TheVariants as state
use Rattle.record.specs.declared.tally.Tally.{Tally}
use Rattle.record.specs.Refusals.{located}
use Rattle.record.specs.Fields.{and_then, Read, field_at}

-- what a field says
abbrev pub saying : Result Read Cause → Result Item Cause
saying (Ok f) = Ok f.item
saying (Err c) = Err c

-- the fields after it; none after one that is refused
abbrev pub following : Result Read Cause → (Read → List Field) → List Field
following (Ok f) more = more f
following (Err c) more = []

-- at most n fields of the bytes, the last ones of a record of so many, read from a state on
unfoldable pub fields : ℕ → State → ℕ → List ℕ → List Field
fields zero s total bytes = []
fields (suc n) s total [] = []
fields (suc n) s total (b ∷ bs) =
    record { at = total - length (b ∷ bs); said = saying (field_at s (b ∷ bs)) } ∷ following (field_at s (b ∷ bs)) (λ f. fields n f.state total f.rest)

-- the fields of a record
abbrev pub fields_of : List ℕ → List Field
fields_of record' = fields (length record') state.Edition (length record') record'

-- the sheet's refusal, unaltered
abbrev pub lifted : {X : Type 0} → Result X SheetFault → Result X Cause
lifted (Ok x) = Ok x
lifted (Err e) = Err (Refused e)

-- what a field does to the book: a call is asked for and made, the edition and the mount do nothing
abbrev pub put : (ℕ → Steps) → List Entry → Item → Result (List Entry) Cause
put steps book (item.Edition e) = Ok book
put steps book (item.Mount m) = Ok book
put steps book (item.Put call) = and_then (lifted (asked steps (given book) call)) (λ _. Ok (written steps book call))

-- one field on the book, a refusal at its offset
abbrev pub made : (ℕ → Steps) → List Entry → Field → Result (List Entry) RecordFault
made steps book f = located f.at (and_then f.said (put steps book))

-- all fields on the book in their order: the first that is refused decides
unfoldable pub replay : (ℕ → Steps) → List Entry → List Field → Result (List Entry) RecordFault
replay steps book [] = Ok book
replay steps book (f ∷ fs) = and_then (made steps book f) (λ b. replay steps b fs)

-- the edition that the first field says
abbrev pub said_edition : Result Item Cause → Edition
said_edition (Ok (item.Edition e)) = e
said_edition (Ok (item.Mount m)) = edition.Radians
said_edition (Ok (item.Put c)) = edition.Radians
said_edition (Err c) = edition.Radians

-- of a record's fields
abbrev pub edition_of : List Field → Edition
edition_of [] = edition.Radians
edition_of (f ∷ fs) = said_edition f.said

-- the mount that a field says, if it says one
abbrev pub said_mount : Result Item Cause → Option Mount
said_mount (Ok (item.Edition e)) = None
said_mount (Ok (item.Mount m)) = Some m
said_mount (Ok (item.Put c)) = None
said_mount (Err c) = None

-- that of the first of these fields
abbrev pub first_mount : List Field → Option Mount
first_mount [] = None
first_mount (f ∷ fs) = said_mount f.said

-- of a record's fields: the second may say one
abbrev pub mount_of : List Field → Option Mount
mount_of [] = None
mount_of (f ∷ fs) = first_mount fs

-- the steps of a word of an edition
abbrev pub edition_steps : Edition → ℕ → Steps
edition_steps edition.Radians = radian_meaning
edition_steps edition.HalfTurns = half_turn_meaning

-- what the edition's reader answers
abbrev pub edition_answer : Edition → ℕ → Reading
edition_answer edition.Radians = radian_answer
edition_answer edition.HalfTurns = half_turn_answer

-- mirrored, if so said
abbrev pub mirror_steps : Bool → Steps → Steps
mirror_steps true u = mirrored_steps u
mirror_steps false u = u

-- the answer likewise
abbrev pub mirror_answer : Bool → Reading → Reading
mirror_answer true a = mirrored_answer a
mirror_answer false a = a

-- steps under the mount: mirroring lies below turning
abbrev pub steps_under : Option Mount → (ℕ → Steps) → ℕ → Steps
steps_under None steps w = steps w
steps_under (Some m) steps w = turned_steps (quarter_count m.quarters) (mirror_steps m.mirrored (steps w))

-- answers under the mount
abbrev pub answer_under : Option Mount → (ℕ → Reading) → ℕ → Reading
answer_under None answer w = answer w
answer_under (Some m) answer w = turned_answer (quarter_count m.quarters) (mirror_answer m.mirrored (answer w))

-- what is reported of the rows standing: their count and the totals of their shares
abbrev pub tally_of : Edition → (ℕ → Reading) → List Entry → Tally
tally_of e answer book = record { edition = e; rows = length book; totals = record { speed = speed_of (map (filled answer) book); along = along_of (map (filled answer) book); across = across_of (map (filled answer) book) } }

-- by an edition and a mount, from the fields
abbrev pub tallied : Edition → Option Mount → List Field → Result Tally RecordFault
tallied e m fs = and_then (replay (steps_under m (edition_steps e)) [] fs) (λ book. Ok (tally_of e (answer_under m (edition_answer e)) book))

-- of a record: an empty one is refused by its missing tag
unfoldable pub record_tally : List ℕ → Result Tally RecordFault
record_tally [] = Err (record { cause = Tag; offset = 0 })
record_tally (b ∷ bs) = tallied (edition_of (fields_of (b ∷ bs))) (mount_of (fields_of (b ∷ bs))) (fields_of (b ∷ bs))
