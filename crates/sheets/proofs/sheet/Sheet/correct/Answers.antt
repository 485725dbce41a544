use Rattle.std.proofs.Common.{◌≡◌, Err, sym, ap, ◌∙◌, arith, rules}
use Rattle.sheets.specs.declared.fault.SheetFault.TheVariants.{Absent}
use Rattle.std.proofs.Math.ListN.{length-set}
use Rattle.sheets.specs.Rows.{samples, distinct}
use Rattle.sheets.proofs.Sheets.{kept, none_row, has-angle, place-among, place-found, there, correct_ok, correct_absent, row_made}
use Rattle.sheets.proofs.Orders.{rewrite-corrected, rewrite-distinct}
use Rattle.sheets.proofs.sheet.Sheet.correct.Goals as goal

pub returns-in_err-i-clause-answer : goal.returns-in_err-i-clause-answer
returns-in_err-i-clause-answer g c =
    let s = c.args.self.now in
    let a = has-angle (g.R.Reader.steps s.reader c.args.entry.word) (g.R.Reader.answer s.reader c.args.entry.word) (c.in_ok-k.k, c.in_ok-k.y) (g.met.R.Reader.meaning s.reader c.args.entry.word (omega arith)) c.in_ok-k.ensures in
    let is : c.from_residual-in_err-i.result ≡ Err Absent = search rules in
    is ∙ correct_absent _ a.0 a.1 (samples s.table.rows) c.args.entry.sample (sym (c.in_err-i.ensures.variant ∙ place-among c.args.entry.sample s.table.rows c.place.result c.place.ensures))

pub invariant_of-self-clause-differ : goal.invariant_of-self-clause-differ
invariant_of-self-clause-differ g c =
    let s = c.args.self.now in
    ap (λ l. distinct (samples l.rows)) (c.rewrite.ensures none_row)
    ∙ rewrite-distinct s.table.rows c.in_ok-i.i none_row c.args.entry _ s.differ (place-found c.args.entry.sample s.table.rows c.in_ok-i.i (sym c.in_ok-i.ensures.ok_part ∙ c.place.ensures))

pub returns-clause-answer : goal.returns-clause-answer
returns-clause-answer g c =
    let s = c.args.self.now in
    let a = has-angle (g.R.Reader.steps s.reader c.args.entry.word) (g.R.Reader.answer s.reader c.args.entry.word) (c.in_ok-k.k, c.in_ok-k.y) (g.met.R.Reader.meaning s.reader c.args.entry.word (omega arith)) c.in_ok-k.ensures in
    correct_ok _ a.0 a.1 (samples s.table.rows) c.args.entry.sample (there s.table.rows c.args.entry.sample c.in_ok-i.i (place-found c.args.entry.sample s.table.rows c.in_ok-i.i (sym c.in_ok-i.ensures.ok_part ∙ c.place.ensures)))

pub returns-clause-rows : goal.returns-clause-rows
returns-clause-rows g c =
    let s = c.args.self.now in
    let made = row_made (λ w. g.R.Reader.answer s.reader w) c.args.entry _ c.in_ok-k.k c.in_ok-k.y c.in_ok-k.ensures c.shares_of-shares.ensures.sine_is c.shares_of-shares.ensures.cosine_is in
    rw (c.rewrite.ensures none_row) (rewrite-corrected s.table.rows c.in_ok-i.i none_row c.args.entry _ _ s.differ (place-found c.args.entry.sample s.table.rows c.in_ok-i.i (sym c.in_ok-i.ensures.ok_part ∙ c.place.ensures)) made)

pub invariant_of-self-clause-within : goal.invariant_of-self-clause-within
invariant_of-self-clause-within g c = rw (c.rewrite.ensures none_row, length-set) c.args.self.now.within

pub invariant_of-self-clause-kept : goal.invariant_of-self-clause-kept
invariant_of-self-clause-kept g c = kept _ _ (c.rewrite.ensures none_row)
