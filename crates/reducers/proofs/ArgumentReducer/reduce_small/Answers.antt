use Rattle.std.proofs.Common.{sym, ap, ◌∙◌, w64, SFits, rules}
use lib.Ieee.{to_signed}
use Rattle.reducers.proofs.Shared.{small-joined}
use Rattle.reducers.proofs.ArgumentReducer.reduce_small.Goals as goal

pub returns : goal.returns
returns c =
    let n = c.round_counted-kd.ensures in
    let f : SFits w64 c.round_counted-kd.result.1 = search rules in
    small-joined c.args.self.x c.thirtytwo_over_pi.result c.thirtytwo_over_pi-2.result c.thirtytwo_over_pi-3.result c.round_counted-kd.result.0 c.f_fmla-y.result c.f_fmla-y-2.result c.round_counted-kd.result.1
    c.thirtytwo_over_pi.ensures n.whole c.thirtytwo_over_pi-2.ensures c.f_fmla-y.ensures c.thirtytwo_over_pi-3.ensures c.f_fmla-y-2.ensures (n.count ∙ ap (to_signed 63) (sym n.whole)) f.sfits
