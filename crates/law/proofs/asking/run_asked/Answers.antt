use Rattle.std.proofs.Common.{◌≡◌, ℕ, ◌+◌, ◌<◌, List, length, get_or, take, set, Ok, sym, refl, ◌∙◌, subst, arith}
use Rattle.std.proofs.lemmas.List.{take_all}
use Rattle.sheets.specs.declared.book.Call.TheVariants.{Enter}
use Rattle.sheets.specs.Sheets.{rows, totals_of}
use Rattle.law.specs.declared.asking.Asked.{Asked}
use Rattle.sheets.specs.declared.reply.Reply.TheVariants.{Done}
use Rattle.law.specs.Law.{Holds}
use Rattle.law.specs.Replies.{calls_of}
use Rattle.law.proofs.Near.{kept_holds}
use Rattle.law.proofs.Replies.{Sofar, begun, further, calls-kept}
use Rattle.law.proofs.asking.run_asked.Goals as goal

abbrev none : Asked
none = record { call = Enter (record { sample = 0; speed = 0; word = 0 }); answer = Ok Done }

pub loop-asked-init : goal.loop-asked-init
loop-asked-init g c = let r = c.new-sheet.result in (refl, refl, begun (g.R.Reader.steps r.reader) (g.R.Reader.answer r.reader) (rows r) c.new-sheet.ensures.rows)

pub loop-asked-preserved : goal.loop-asked-preserved
loop-asked-preserved g c =
    let i : ℕ = c.loop-asked.asked-index in
    let list : List Asked = c.loop-asked.list in
    let lt : i < length list = omega arith in
    let a : Asked = record { call = (get_or list i none).call; answer = c.ask-asked.result } in
    let s = c.loop-asked.sheet in
    let after = rows c.ask-asked.new.sheet in (
      c.ask-asked.ensures.rest.reader ∙ c.loop-asked.invariant.0,
      calls-kept list i a none lt refl ∙ c.loop-asked.invariant.1,
      subst (λ r. Sofar (g.R.Reader.steps r) (g.R.Reader.answer r) (take (i + 1) (set list i a)) after) c.loop-asked.invariant.0
          (further (g.R.Reader.steps s.reader) (g.R.Reader.answer s.reader) list i a (rows s) after lt
          (subst (λ r. Sofar (g.R.Reader.steps r) (g.R.Reader.answer r) (take i list) (rows s)) (sym c.loop-asked.invariant.0) c.loop-asked.invariant.2)
          c.ask-asked.ensures.answer c.ask-asked.ensures.grown),
    )

pub returns-clause-holds : goal.returns-clause-holds
returns-clause-holds g c =
    let s = c.loop-asked.sheet in
    let list : List Asked = c.loop-asked.list in
    let all : take c.loop-asked.asked-index list ≡ list = take_all c.loop-asked.asked-index list (omega arith) in
    let reader = c.args.reader in
    let so : Sofar (g.R.Reader.steps reader) (g.R.Reader.answer reader) list (rows s) =
    subst (λ r. Sofar (g.R.Reader.steps r) (g.R.Reader.answer r) list (rows s)) c.new-sheet.ensures.reader
    (subst (λ l. Sofar (g.R.Reader.steps c.new-sheet.result.reader) (g.R.Reader.answer c.new-sheet.result.reader) l (rows s)) all c.loop-asked.invariant.2) in
    subst (λ l. Holds (g.R.Reader.steps reader) (g.R.Reader.answer reader) l (rows s) (totals_of s)) c.loop-asked.invariant.1
    (kept_holds (g.R.Reader.steps reader) (g.R.Reader.answer reader) (g.met.R.Reader.meaning reader) (calls_of list) (rows s) (totals_of s) so.grown s.kept)
