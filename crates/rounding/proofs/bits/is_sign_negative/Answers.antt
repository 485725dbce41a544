use Rattle.std.proofs.Common.{leb, ap, ◌∙◌}
use Rattle.rounding.proofs.Signs.{test-is}
use Rattle.rounding.proofs.Patterns.{fits_back}
use Rattle.rounding.proofs.bits.is_sign_negative.Goals as goal

pub returns : goal.returns
returns g c =
    let f = g.F.BinaryFloat.format in
    let x = g.F.BinaryFloat.float c.args.x in
    ap (λ s. leb s c.bits.result) (c.SIGN.ensures ∙ g.met.F.BinaryFloat.sign_is) ∙ test-is f x c.bits.result (fits_back f x c.bits.result c.bits.ensures.back) c.bits.ensures.is
