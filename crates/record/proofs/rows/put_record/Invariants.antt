use Rattle.std.proofs.Common.{◌≡◌, List}
use Rattle.sheets.specs.declared.book.Entry.{Entry}
use Rattle.sheets.specs.Sheets.{rows}
use Rattle.sheets.specs.Runs.{Grown}
use Rattle.record.specs.Record.{replay}
use Rattle.record.proofs.rows.put_record.Given as goal

-- the sheet's rows are a book's, and what is left comes to the same on it as all fields on the book at the beginning
abbrev pub invariant-loop-field : goal.invariant-loop-field
invariant-loop-field g l =
    (l.sheet.reader ≡ l.initial.sheet.reader)
    × ((book : List Entry) → Grown (g.R.Reader.answer l.initial.sheet.reader) book (rows l.initial.sheet)
    → (now' : List Entry) × Grown (g.R.Reader.answer l.initial.sheet.reader) now' (rows l.sheet)
    × (replay (g.R.Reader.steps l.initial.sheet.reader) book l.initial.field-iterator ≡ replay (g.R.Reader.steps l.initial.sheet.reader) now' l.field-iterator))
