-- A field on the sheet and on the book. Definitions only.
use Rattle.std.specs.Prelude.{◌≡◌, ℕ, List, Ok, Err, Result}
use Rattle.readers.specs.Meaning.{Reading}
use Rattle.sheets.specs.declared.book.Entry.{Entry}
use Rattle.sheets.specs.declared.row.Row.{Row}
use Rattle.sheets.specs.Runs.{Grown}
use Rattle.record.specs.declared.fault.RecordFault.{RecordFault}

-- a field made on the sheet is the same on the book, and so is a refusal
abbrev pub Follows : (ℕ → Reading) → List Row → Result (List Entry) RecordFault → Result (Unit {0}) RecordFault → Type 0
Follows answer rows (Ok book) (Ok x) = Grown answer book rows
Follows answer rows (Ok book) (Err f) = ⊥
Follows answer rows (Err e) (Ok x) = ⊥
Follows answer rows (Err e) (Err f) = e ≡ f
