use Rattle.std.proofs.Common.{ℕ, sym, subst, rules}
use Rattle.readers.specs.Meaning.{Steps, Reading}
use Rattle.sheets.specs.Book.{written}
use Rattle.sheets.specs.Replies.{Answer}
use Rattle.sheets.specs.Sheets.{rows}
use Rattle.sheets.specs.Runs.{Grown}
use Rattle.sheets.proofs.Sheets.{shown}
use Rattle.sheets.proofs.Runs.{enter-grown, correct_grown, withdraw_grown}
use Rattle.sheets.proofs.sheet.runs.ask.Goals as goal

pub returns-in-Enter-clause-grown : goal.returns-in-Enter-clause-grown
returns-in-Enter-clause-grown g c =
    let s = c.args.sheet.now in
    let steps : ℕ → Steps = λ w. g.R.Reader.steps s.reader w in
    let answer : ℕ → Reading = λ w. g.R.Reader.answer s.reader w in
    λ book old. subst (λ q. Grown answer (written steps book q) (rows c.enter.new.self)) (sym c.in-Enter.is)
    (enter-grown steps answer book (rows s) (rows c.enter.new.self) c.enter.result c.in-Enter.entry (search rules) c.enter.ensures.answer c.enter.ensures.rows old)

pub returns-in-Correct-clause-grown : goal.returns-in-Correct-clause-grown
returns-in-Correct-clause-grown g c =
    let s = c.args.sheet.now in
    let steps : ℕ → Steps = λ w. g.R.Reader.steps s.reader w in
    let answer : ℕ → Reading = λ w. g.R.Reader.answer s.reader w in
    λ book old. subst (λ q. Grown answer (written steps book q) (rows c.correct.new.self)) (sym c.in-Correct.is)
    (correct_grown steps answer book (rows s) (rows c.correct.new.self) c.correct.result c.in-Correct.entry (search rules) c.correct.ensures.answer c.correct.ensures.rows old)

pub returns-in-Withdraw-clause-grown : goal.returns-in-Withdraw-clause-grown
returns-in-Withdraw-clause-grown g c =
    let s = c.args.sheet.now in
    let steps : ℕ → Steps = λ w. g.R.Reader.steps s.reader w in
    let answer : ℕ → Reading = λ w. g.R.Reader.answer s.reader w in
    λ book old. subst (λ q. Grown answer (written steps book q) (rows c.withdraw.new.self)) (sym c.in-Withdraw.is)
    (withdraw_grown steps answer book (rows s) (rows c.withdraw.new.self) c.withdraw.result c.in-Withdraw.sample c.withdraw.ensures.answer c.withdraw.ensures.rows old)

pub returns-in-RowOf-clause-answer : goal.returns-in-RowOf-clause-answer
returns-in-RowOf-clause-answer g c =
    let s = c.args.sheet.now in
    subst (λ q. Answer (g.R.Reader.steps s.reader) (rows s) q c.map-in-RowOf.result (rows s)) (sym c.in-RowOf.is)
    (shown (g.R.Reader.steps s.reader) c.row_of.result c.map-in-RowOf.result (rows s) c.in-RowOf.sample c.row_of.ensures c.map-in-RowOf.ensures.cases)
