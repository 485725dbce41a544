use Rattle.std.proofs.Common.{◌≡◌, Err, sym, ap, ◌∙◌, arith, rules, length-take}
use Rattle.sheets.specs.declared.fault.SheetFault.TheVariants.{Absent}
use Rattle.std.proofs.Math.ListN.{length-set}
use Rattle.sheets.specs.declared.row.Row.{Row}
use mathlib.Core.List.Permᴰ
use Rattle.sheets.specs.Rows.{samples, distinct}
use Rattle.sheets.proofs.Sheets.{kept, none_row, place-among, place-found, there, withdraw_ok, withdraw_absent}
use Rattle.sheets.proofs.Orders.{withdrawn-order, withdrawn-distinct}
use Rattle.sheets.proofs.sheet.Sheet.withdraw.Goals as goal

pub returns-in_err-i-clause-answer : goal.returns-in_err-i-clause-answer
returns-in_err-i-clause-answer g c =
    let s = c.args.self.now in
    let is : c.from_residual.result ≡ Err Absent = search rules in
    is ∙ withdraw_absent (samples s.table.rows) c.args.sample (sym (c.in_err-i.ensures.variant ∙ place-among c.args.sample s.table.rows c.place.result c.place.ensures))

pub returns-in_err-i-clause-rows : goal.returns-in_err-i-clause-rows
returns-in_err-i-clause-rows g c = let is : c.from_residual.result ≡ Err Absent = search rules in rw is (Permᴰ.refl c.args.self.now.table.rows)

pub invariant_of-self-clause-differ : goal.invariant_of-self-clause-differ
invariant_of-self-clause-differ g c =
    let s = c.args.self.now in
    let f = place-found c.args.sample s.table.rows c.in_ok-i.i (sym c.in_ok-i.ensures.ok_part ∙ c.place.ensures) in
    ap (λ l. distinct (samples l.rows)) (c.remove.ensures none_row) ∙ withdrawn-distinct s.table.rows c.in_ok-i.i none_row f.within s.differ

pub returns-clause-answer : goal.returns-clause-answer
returns-clause-answer g c =
    let s = c.args.self.now in
    withdraw_ok (samples s.table.rows) c.args.sample (there s.table.rows c.args.sample c.in_ok-i.i (place-found c.args.sample s.table.rows c.in_ok-i.i (sym c.in_ok-i.ensures.ok_part ∙ c.place.ensures)))

pub returns-clause-rows : goal.returns-clause-rows
returns-clause-rows g c =
    let s = c.args.self.now in
    rw (c.remove.ensures none_row) (withdrawn-order s.table.rows c.args.sample c.in_ok-i.i none_row s.differ (place-found c.args.sample s.table.rows c.in_ok-i.i (sym c.in_ok-i.ensures.ok_part ∙ c.place.ensures)))

pub invariant_of-self-clause-within : goal.invariant_of-self-clause-within
invariant_of-self-clause-within g c = rw (c.remove.ensures none_row) (omega (arith, length-take {A = Row}, length-set {A = Row}, c.args.self.now.within))

pub invariant_of-self-clause-kept : goal.invariant_of-self-clause-kept
invariant_of-self-clause-kept g c = kept _ _ (c.remove.ensures none_row)
