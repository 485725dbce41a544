use Rattle.std.proofs.Common.{◌≡◌, ℕ, List, [], Ok, Err, Result, sym, ap, ◌∙◌, subst}
use mathlib.Core.List.Permᴰ
use Rattle.std.proofs.lemmas.Result.{err_from_is_err_and}
use Rattle.readers.specs.Meaning.{Reading}
use Rattle.sheets.specs.declared.row.Row.{Row}
use Rattle.sheets.specs.Runs.{Grown}
use Rattle.sheets.specs.Sheets.{rows}
use Rattle.record.specs.declared.fault.RecordFault.{RecordFault}
use Rattle.record.specs.declared.module.Module.{Module}
use Rattle.record.specs.declared.fields.Field.{Field}
use Rattle.record.specs.Record.{replay, edition_steps, edition_answer, steps_under, answer_under}
use Rattle.record.specs.Reached.{Follows}
use Rattle.record.proofs.Tallies.{tally-refused, tally-made}
use Rattle.record.proofs.reading.tally_over.Goals as goal

none_yet : (answer : ℕ → Reading) (rs : List Row) → rs ≡ [] → Grown answer [] rs
none_yet answer rs e = subst (λ l. Grown answer [] l) (sym e) (record { order = Permᴰ.refl []; words = tt })

-- what putting a record on a new sheet comes to, by the module that the sheet was made with
followed : (m m0 : Module) (fields : List Field) (before after : List Row) (res q : Result (Unit {0}) RecordFault) → m ≡ m0 → before ≡ [] → res ≡ q
    → Follows (answer_under m.mount (edition_answer m.edition)) after (replay (steps_under m.mount (edition_steps m.edition)) [] fields) res
    → Follows (answer_under m0.mount (edition_answer m0.edition)) after (replay (steps_under m0.mount (edition_steps m0.edition)) [] fields) q
followed m m0 fields before after res q e b f h =
    let step : Module → Result (Unit {0}) RecordFault → Type 0 = λ x z. Follows (answer_under x.mount (edition_answer x.edition)) after (replay (steps_under x.mount (edition_steps x.edition)) [] fields) z in
    subst (step m0) f (subst (λ x. step x res) e h)

pub returns-in_err-put_record : goal.returns-in_err-put_record
returns-in_err-put_record c =
    let p = err_from_is_err_and c.from_residual.result c.from_residual.ensures.1 in
    let m0 = c.args.reader in
    let f = c.in_err-put_record.field-0.0 in
    let F = c.put_record.ensures.made [] (none_yet _ _ c.new-sheet.ensures.rows) in
    p.1 ∙ ap Err p.2
    ∙ tally-refused (answer_under m0.mount (edition_answer m0.edition)) (rows c.put_record.new.sheet) _ m0.edition f
    (followed c.new-sheet.result.reader m0 c.args.fields (rows c.new-sheet.result) (rows c.put_record.new.sheet) c.put_record.result (Err f) c.new-sheet.ensures.reader c.new-sheet.ensures.rows c.in_err-put_record.was F)

pub returns : goal.returns
returns c =
    let m0 = c.args.reader in
    let F = c.put_record.ensures.made [] (none_yet _ _ c.new-sheet.ensures.rows) in
    tally-made (answer_under m0.mount (edition_answer m0.edition)) (rows c.put_record.new.sheet) _ m0.edition _ _ _ _
    (followed c.new-sheet.result.reader m0 c.args.fields (rows c.new-sheet.result) (rows c.put_record.new.sheet) c.put_record.result (Ok tt) c.new-sheet.ensures.reader c.new-sheet.ensures.rows c.in_ok-put_record.was F)
    c.count.ensures c.totals.ensures.speed c.totals.ensures.along c.totals.ensures.across
