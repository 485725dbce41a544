use Rattle.std.proofs.Common.{sym, ap, ◌∙◌, w64, SFits, rules}
use lib.Ieee.{to_signed}
use Rattle.reducers.proofs.HalfTurns.{quarter-joined, quarter-at}
use Rattle.reducers.proofs.pi.ArgumentReducerPi.reduce_0p25.Goals as goal

pub returns : goal.returns
returns c =
    let n = c.round_counted-kd.ensures in
    let f : SFits w64 c.round_counted-kd.result.1 = search rules in
    let e = quarter-joined c.args.self.x c.round_counted-kd.result.0 c.f_fmla-y.result c.round_counted-kd.result.1 n.whole c.f_fmla-y.ensures (n.count ∙ ap (to_signed 63) (sym n.whole)) f.sfits in
    record { is = e; exact = quarter-at c.args.self.x c.f_fmla-y.result _ e (search rules) }
