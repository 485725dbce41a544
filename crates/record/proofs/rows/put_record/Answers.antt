use Rattle.std.proofs.Common.{◌≡◌, List, Ok, Err, Result, sym, ap, ◌∙◌, subst}
use Rattle.std.proofs.lemmas.Result.{err_from_is_err_and}
use Rattle.sheets.specs.declared.book.Entry.{Entry}
use Rattle.sheets.specs.declared.row.Row.{Row}
use Rattle.sheets.specs.Sheets.{rows}
use Rattle.sheets.specs.Runs.{Grown}
use Rattle.record.specs.declared.fault.RecordFault.{RecordFault}
use Rattle.record.specs.declared.fields.Field.{Field}
use Rattle.record.specs.Record.{replay, made}
use Rattle.record.specs.Reached.{Follows}
use Rattle.record.proofs.Replay.{replay-taken, replay-refused, replay-over}
use Rattle.record.proofs.rows.put_record.Given as given
use Rattle.record.proofs.rows.put_record.Goals as goal

-- the sheet's part of a turn, by the reader that the sheet began with
turn-made : (g : given.Over) (r r0 : g.row.R.Denot) (field : Field) (before after : List Row) (res q : Result (Unit {0}) RecordFault) → r ≡ r0 → res ≡ q
    → ((book : List Entry) → Grown (g.R.Reader.answer r) book before → Follows (g.R.Reader.answer r) after (made (g.R.Reader.steps r) book field) res)
    → (book : List Entry) → Grown (g.R.Reader.answer r0) book before → Follows (g.R.Reader.answer r0) after (made (g.R.Reader.steps r0) book field) q
turn-made g r r0 field before after res q e f h =
    let step : (x : g.row.R.Denot) (z : Result (Unit {0}) RecordFault) → Type 0 = λ x z. (book : List Entry) → Grown (g.R.Reader.answer x) book before → Follows (g.R.Reader.answer x) after (made (g.R.Reader.steps x) book field) z in
    subst (step r0) f (subst (λ x. step x res) e h)

-- of the iterator that a loop makes of these fields, which is they
over : (g : given.Over) (r0 : g.row.R.Denot) (book : List Entry) (fields made' : List Field) (after : List Row) (q : Result (Unit {0}) RecordFault) → made' ≡ fields
    → Follows (g.R.Reader.answer r0) after (replay (g.R.Reader.steps r0) book made') q → Follows (g.R.Reader.answer r0) after (replay (g.R.Reader.steps r0) book fields) q
over g r0 book fields made' after q e h = subst (λ l. Follows (g.R.Reader.answer r0) after (replay (g.R.Reader.steps r0) book l) q) e h

pub loop-field-preserved : goal.loop-field-preserved
loop-field-preserved g c =
    let r0 = c.args.sheet.now.reader in (
      c.put_field.ensures.rest.reader ∙ c.loop-field.invariant.0,
      λ book old.
          let I = c.loop-field.invariant.1 book old in
          let F = turn-made g c.loop-field.sheet.reader r0 c.in-Some.field (rows c.loop-field.sheet) (rows c.put_field.new.sheet) c.put_field.result (Ok tt) c.loop-field.invariant.0 c.in_ok-put_field.was c.put_field.ensures.made I.0 I.1 in
          replay-taken _ _ _ I.0 _ c.in-Some.field c.next.new.self (I.2 ∙ ap (replay (g.R.Reader.steps r0) I.0) c.in-Some.ensures.steps) F,
    )

pub returns-in_err-put_field-clause-made : goal.returns-in_err-put_field-clause-made
returns-in_err-put_field-clause-made g c book old =
    let r0 = c.args.sheet.now.reader in
    let p = err_from_is_err_and c.from_residual.result c.from_residual.ensures.1 in
    let f = c.in_err-put_field.field-0.0 in
    let I = c.loop-field.invariant.1 book old in
    let F = turn-made g c.loop-field.sheet.reader r0 c.in-Some.field (rows c.loop-field.sheet) (rows c.put_field.new.sheet) c.put_field.result (Err f) c.loop-field.invariant.0 c.in_err-put_field.was c.put_field.ensures.made I.0 I.1 in
    over g r0 book c.args.fields c.into_iter-field-iterator.result (rows c.put_field.new.sheet) c.from_residual.result c.into_iter-field-iterator.ensures.into_iter_gives
    (subst (Follows (g.R.Reader.answer r0) (rows c.put_field.new.sheet) _) (sym (p.1 ∙ ap Err p.2))
    (replay-refused _ _ _ I.0 _ c.in-Some.field c.next.new.self f (I.2 ∙ ap (replay (g.R.Reader.steps r0) I.0) c.in-Some.ensures.steps) F))

pub returns-clause-made : goal.returns-clause-made
returns-clause-made g c book old =
    let I = c.loop-field.invariant.1 book old in
    over g c.args.sheet.now.reader book c.args.fields c.into_iter-field-iterator.result (rows c.loop-field.sheet) (Ok tt) c.into_iter-field-iterator.ensures.into_iter_gives (replay-over _ _ _ I.0 _ c.loop-field.field-iterator c.in-None.ensures.steps.0 I.2 I.1)
