use Rattle.std.proofs.Common.{length, codes, ap, arith, rules}
use Rattle.record.specs.Page.{lines}
use Rattle.record.proofs.Pages.{length-line, grown}
use Rattle.record.proofs.tally.Tally.page.Goals as goal

pub push_line-requires : goal.push_line-requires
push_line-requires c = omega (arith, length-line (codes "edition ") c.format.result.now, c.format.ensures.fits, ap length c.new-page.ensures)

pub push_line-requires-2 : goal.push_line-requires-2
push_line-requires-2 c =
    omega (arith, length-line (codes "rows ") c.format-2.result.now, c.format-2.ensures.fits, ap length c.new-page.ensures, grown _ _ (codes "edition ") _ 3 c.format.ensures.fits c.push_line.ensures)

pub push_line-requires-3 : goal.push_line-requires-3
push_line-requires-3 c =
    omega (arith, length-line (codes "speed ") c.format-3.result.now, c.format-3.ensures.fits, ap length c.new-page.ensures, grown _ _ (codes "edition ") _ 3 c.format.ensures.fits c.push_line.ensures, grown _ _ (codes "rows ") _ 5 c.format-2.ensures.fits c.push_line-2.ensures)

pub push_line-requires-4 : goal.push_line-requires-4
push_line-requires-4 c =
    omega (arith, length-line (codes "along ") c.format-4.result.now, c.format-4.ensures.fits, ap length c.new-page.ensures, grown _ _ (codes "edition ") _ 3 c.format.ensures.fits c.push_line.ensures, grown _ _ (codes "rows ") _ 5 c.format-2.ensures.fits c.push_line-2.ensures, grown _ _ (codes "speed ") _ 10 c.format-3.ensures.fits c.push_line-3.ensures)

pub push_line-requires-5 : goal.push_line-requires-5
push_line-requires-5 c =
    omega (arith, length-line (codes "across ") c.format-5.result.now, c.format-5.ensures.fits, ap length c.new-page.ensures, grown _ _ (codes "edition ") _ 3 c.format.ensures.fits c.push_line.ensures, grown _ _ (codes "rows ") _ 5 c.format-2.ensures.fits c.push_line-2.ensures, grown _ _ (codes "speed ") _ 10 c.format-3.ensures.fits c.push_line-3.ensures, grown _ _ (codes "along ") _ 20 c.format-4.ensures.fits c.push_line-4.ensures)

pub returns : goal.returns
unfolding lines
returns c = search rules
