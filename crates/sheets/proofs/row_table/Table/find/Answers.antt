use Rattle.std.proofs.Common.{◌≡◌, false, MatchOption, sym, subst}
use Rattle.std.specs.List.{ContainsAt as Has}
use Rattle.sheets.specs.Rows.{samples, among}
use Rattle.sheets.proofs.Sheets.{place-among, place-found, row-there}
use Rattle.sheets.proofs.row_table.Table.find.Goals as goal

pub returns-in_err-i : goal.returns-in_err-i
returns-in_err-i c =
    let rows = c.args.self.now.rows in
    let s = c.args.sample in
    subst (λ r. MatchOption r (among s (samples rows) ≡ false) (λ row. (row.sample ≡ s) × Has rows row)) (sym c.from_residual.ensures) (sym (place-among s rows _ c.in_err-i.ensures))

pub returns : goal.returns
returns c = row-there c.args.sample c.args.self.now.rows c.in_ok-i.i c.get.result (place-found c.args.sample c.args.self.now.rows c.in_ok-i.i c.in_ok-i.ensures) c.get.ensures
