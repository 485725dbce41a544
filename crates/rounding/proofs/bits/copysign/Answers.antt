use Rattle.std.proofs.Common.{◌∙◌}
use Rattle.rounding.proofs.Signs.{copied_is}
use Rattle.rounding.proofs.bits.copysign.Goals as goal

pub returns : goal.returns
returns g c =
    let F = g.F.BinaryFloat in
    let sign = g.met.F.BinaryFloat.sign_is in
    copied_is F.format (F.float c.args.x) (F.float c.args.y) (F.float c.of_bits.result) c.bits-i.result c.bits-j.result c.SIGN.result c.SIGN-2.result (c.SIGN.ensures ∙ sign) (c.SIGN-2.ensures ∙ sign) c.bits-i.ensures.is c.bits-i.ensures.back c.bits-j.ensures.is c.bits-j.ensures.back c.of_bits.ensures
