use Rattle.std.proofs.Common.{sym, refl, ap, ◌∙◌, to_z-of_z, w32}
use lib.Ieee.{to_signed}
use Rattle.reducers.specs.Reduce.{reduce_from, skips, leading}
use Rattle.reducers.proofs.Shared.{large-joined}
use Rattle.reducers.proofs.ArgumentReducer.reduce_large.Goals as goal

pub returns : goal.returns
returns c =
    let h = c.round_counted-k_hi.ensures in
    let l = c.round_counted-k_lo.ensures in
    large-joined c.args.self.x c.thirtytwo_over_pi.result c.thirtytwo_over_pi-2.result c.thirtytwo_over_pi-3.result c.thirtytwo_over_pi-4.result c.round_counted-k_hi.result.0 c.f_fmla-prod_lo.result c.round_counted-k_lo.result.0 c.f_fmla-y.result c.f_fmla-y-2.result c.skipped-idx.result c.round_counted-k_hi.result.1 c.round_counted-k_lo.result.1 _
    c.thirtytwo_over_pi.ensures h.whole c.thirtytwo_over_pi-2.ensures c.f_fmla-prod_lo.ensures l.whole c.thirtytwo_over_pi-3.ensures c.f_fmla-y.ensures c.thirtytwo_over_pi-4.ensures c.f_fmla-y-2.ensures (h.count ∙ ap (to_signed 63) (sym h.whole)) (l.count ∙ ap (to_signed 63) (sym l.whole)) refl
    ∙ ap (λ i. reduce_from i c.args.self.x) (c.skipped-idx.ensures.is ∙ ap (skips leading) (to_z-of_z {w = w32} {z = c.args.exponent} c.ranges.exponent))
