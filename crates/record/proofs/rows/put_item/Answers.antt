use Rattle.std.proofs.Common.{◌≡◌, ℕ, List, Result, sym, subst}
use Rattle.std.proofs.lemmas.Result.{err_from_is_err_and}
use Rattle.readers.specs.Meaning.{Steps, Reading}
use Rattle.sheets.specs.declared.book.Call.{Call}
use Rattle.sheets.specs.declared.book.Entry.{Entry}
use Rattle.sheets.specs.declared.fault.SheetFault.{SheetFault}
use Rattle.sheets.specs.declared.row.Row.{Row}
use Rattle.sheets.specs.Book.{asked, written}
use Rattle.sheets.specs.Rows.{samples}
use Rattle.sheets.specs.Runs.{Grown}
use Rattle.sheets.specs.Sheets.{rows}
use Rattle.record.specs.declared.item.Item.{Item}
use Rattle.record.specs.declared.item.Item.TheVariants.{Put}
use Rattle.record.specs.Refusals.{located}
use Rattle.record.specs.Record.{put, lifted}
use Rattle.record.specs.Reached.{Follows}
use Rattle.record.proofs.Replay.{put-follows}
use Rattle.record.proofs.rows.put_item.Goals as goal

-- what following the call comes to
followed : (steps : ℕ → Steps) (answer : ℕ → Reading) (book : List Entry) (before after : List Row) (item : Item) (call : Call) (q r : Result (Unit {0}) SheetFault) (offset : ℕ) → item ≡ Put call → r ≡ q → r ≡ asked steps (samples before) call → Grown answer book before → Grown answer (written steps book call) after
    → Follows answer after (located offset (put steps book item)) (located offset (lifted q))
followed steps answer book before after item call q r offset i e was old new =
    subst (λ x. Follows answer after (located offset (put steps book x)) (located offset (lifted q))) (sym i)
    (subst (λ x. Follows answer after (located offset (put steps book (Put call))) (located offset (lifted x))) e (put-follows steps answer book before after call r offset was old new))

pub returns-in_err-follow-clause-made : goal.returns-in_err-follow-clause-made
returns-in_err-follow-clause-made g c offset book old =
    let s = c.args.sheet.now in
    let p = err_from_is_err_and c.from_residual.result c.from_residual.ensures.1 in
    rw (p.1, p.2) (followed (g.R.Reader.steps s.reader) (g.R.Reader.answer s.reader) book (rows s) (rows c.follow.new.sheet) c.args.item c.in-Put.call _ c.follow.result offset c.in-Put.is c.in_err-follow.was c.follow.ensures.answer old (c.follow.ensures.grown book old))

pub returns-in_ok-follow-clause-made : goal.returns-in_ok-follow-clause-made
returns-in_ok-follow-clause-made g c offset book old =
    let s = c.args.sheet.now in
    followed (g.R.Reader.steps s.reader) (g.R.Reader.answer s.reader) book (rows s) (rows c.follow.new.sheet) c.args.item c.in-Put.call _ c.follow.result offset c.in-Put.is c.in_ok-follow.was c.follow.ensures.answer old (c.follow.ensures.grown book old)
