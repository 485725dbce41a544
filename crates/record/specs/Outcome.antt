-- What the outcome of a record means: the first no decides, or the totals are those of the rows standing. Definitions only.
use Rattle.std.specs.Prelude.{◌≡◌, ℕ, ◌<◌, ◌≤◌, ◌⊎◌, List, [], ◌∷◌, ◌++◌, map, length, Ok, Err, Result}
use Rattle.readers.specs.Meaning.{Steps, Reading}
use Rattle.sheets.specs.declared.book.Call.{Call}
use Rattle.sheets.specs.declared.book.Entry.{Entry}
use Rattle.sheets.specs.declared.fault.SheetFault.{SheetFault}
use Rattle.sheets.specs.Book.{asked, given, written, standing_after}
use Rattle.sheets.specs.Runs.{filled}
use Rattle.law.specs.Law.{Holds}
use Rattle.record.specs.declared.fault.Cause.{Cause}
use Rattle.record.specs.declared.fault.Cause.TheVariants.{Buffer, TooLong, Tag, Refused}
use Rattle.record.specs.declared.fault.RecordFault.{RecordFault}
use Rattle.record.specs.declared.item.Item.{Item}
use Rattle.record.specs.declared.item.Item.TheVariants as item
use Rattle.record.specs.declared.tally.Tally.{Tally}
use Rattle.record.specs.declared.fields.Field.{Field}
use Rattle.record.specs.Record.{fields_of, edition_of, mount_of, edition_steps, edition_answer, steps_under, answer_under}

-- the meaning of a record's words: its edition's, under its mount
abbrev pub steps_of : List ℕ → ℕ → Steps
steps_of bytes = steps_under (mount_of (fields_of bytes)) (edition_steps (edition_of (fields_of bytes)))

-- what its reader answers
abbrev pub answer_of : List ℕ → ℕ → Reading
answer_of bytes = answer_under (mount_of (fields_of bytes)) (edition_answer (edition_of (fields_of bytes)))

-- the call that a field says, before others
abbrev pub calling : Result Item Cause → List Call → List Call
calling (Ok (item.Edition e)) calls = calls
calling (Ok (item.Mount m)) calls = calls
calling (Ok (item.Put call)) calls = call ∷ calls
calling (Err c) calls = calls

-- the calls of the fields, in their order
abbrev pub calls_in : List Field → List Call
calls_in [] = []
calls_in (f ∷ fs) = calling f.said (calls_in fs)

-- a report's numbers: the count and the totals of the rows standing after the record's calls, along and across near the exact ones
pub record Stands (bytes : List ℕ) (t : Tally) : Type 0 where
  pub edition : t.edition ≡ edition_of (fields_of bytes)
  pub rows : t.rows ≡ length (standing_after (steps_of bytes) (calls_in (fields_of bytes)))
  pub totals : Holds (steps_of bytes) (answer_of bytes) (calls_in (fields_of bytes)) (map (filled (answer_of bytes)) (standing_after (steps_of bytes) (calls_in (fields_of bytes)))) t.totals

-- what a field says gets a yes, where this book stands
abbrev pub Yes : (ℕ → Steps) → List Entry → Item → Type 0
Yes steps book (item.Edition e) = Unit {0}
Yes steps book (item.Mount m) = Unit {0}
Yes steps book (item.Put call) = asked steps (given book) call ≡ Ok tt

-- the book after it
abbrev pub after : (ℕ → Steps) → List Entry → Item → List Entry
after steps book (item.Edition e) = book
after steps book (item.Mount m) = book
after steps book (item.Put call) = written steps book call

-- every field gets a yes in its turn, from one book to another
abbrev pub Passed : (ℕ → Steps) → List Entry → List Field → List Entry → Type 0
Passed steps book [] end = book ≡ end
Passed steps book (f ∷ fs) end = (i : Item) × (f.said ≡ Ok i) × Yes steps book i × Passed steps (after steps book i) fs end

-- a field gets a no: it says nothing, or a call that the book refuses
abbrev pub No : (ℕ → Steps) → List Entry → Field → Cause → Type 0
No steps book f c = (f.said ≡ Err c) ⊎ ((call : Call) × (e : SheetFault) × (f.said ≡ Ok (item.Put call)) × (asked steps (given book) call ≡ Err e) × (c ≡ Refused e))

-- the fields before one got a yes, and it gets a no: that decides, at its offset
pub record FirstNo (steps : ℕ → Steps) (fields : List Field) (f : RecordFault) : Type 0 where
  pub before : List Field
  pub decides : Field
  pub behind : List Field
  pub split : fields ≡ before ++ decides ∷ behind
  pub book : List Entry
  pub passed : Passed steps [] before book
  pub no' : No steps book decides f.cause
  pub place : f.offset ≡ decides.at

-- the question of the buffer, then that of the length, then a record's own: an empty one has no tag, else the first field with a no
abbrev pub RefusedFirst : ℕ → List ℕ → RecordFault → Type 0
RefusedFirst room bytes f =
    ((room < 96) × (f ≡ record { cause = Buffer; offset = 0 }))
    ⊎ ((96 ≤ room) × (65536 < length bytes) × (f ≡ record { cause = TooLong; offset = 0 }))
    ⊎ ((96 ≤ room) × (length bytes ≤ 65536) × (((bytes ≡ []) × (f ≡ record { cause = Tag; offset = 0 })) ⊎ FirstNo (steps_of bytes) (fields_of bytes) f))

-- what an outcome means
abbrev pub Means : ℕ → List ℕ → Result Tally RecordFault → Type 0
Means room bytes (Ok t) = (96 ≤ room) × (length bytes ≤ 65536) × Stands bytes t
Means room bytes (Err f) = RefusedFirst room bytes f
