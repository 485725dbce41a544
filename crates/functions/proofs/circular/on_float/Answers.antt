use Rattle.std.proofs.Common.{sym, subst, rules}
use Rattle.functions.proofs.Wording.{on-float}
use Rattle.functions.proofs.circular.on_float.Goals as goal

pub returns : goal.returns
returns g c =
    let f = g.F.Circular in
    let e = on-float f.answer g.met.F.Circular.stays c.args.x c.f32_from_bits_with_nan.result c.f32_to_bits_with_nan.result c.at.result (search rules) c.f32_to_bits_with_nan.ensures c.at.ensures c.f32_from_bits_with_nan.ensures in
    record { is = e; near = subst (f.near c.args.x) (sym e) (g.met.F.Circular.keeps c.args.x (search rules)) }
