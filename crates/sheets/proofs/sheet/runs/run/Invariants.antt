use Rattle.std.proofs.Common.{◌≡◌, ◌≤◌, length, take}
use Rattle.sheets.specs.Book.{standing_after}
use Rattle.sheets.specs.Sheets.{rows}
use Rattle.sheets.specs.Runs.{Grown}
use Rattle.sheets.proofs.sheet.runs.run.Given as goal

abbrev pub invariant-loop-call : goal.invariant-loop-call
invariant-loop-call g l = (l.call-index ≤ length l.calls) × (l.sheet.reader ≡ l.initial.sheet.reader) × Grown (g.R.Reader.answer l.initial.sheet.reader) (standing_after (g.R.Reader.steps l.initial.sheet.reader) (take l.call-index l.calls)) (rows l.sheet)
