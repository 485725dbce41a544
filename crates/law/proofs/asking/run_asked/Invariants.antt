use Rattle.std.proofs.Common.{◌≡◌, take}
use Rattle.sheets.specs.Sheets.{rows}
use Rattle.law.specs.Replies.{calls_of}
use Rattle.law.proofs.Replies.{Sofar}
use Rattle.law.proofs.asking.run_asked.Given as goal

abbrev pub invariant-loop-asked : goal.invariant-loop-asked
invariant-loop-asked g l =
    (l.sheet.reader ≡ l.initial.sheet.reader)
    × (calls_of l.list ≡ calls_of l.initial.list)
    × Sofar (g.R.Reader.steps l.initial.sheet.reader) (g.R.Reader.answer l.initial.sheet.reader) (take l.asked-index l.list) (rows l.sheet)
