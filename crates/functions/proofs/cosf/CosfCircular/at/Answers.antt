use Rattle.std.proofs.Common.{◌≡◌, ◌%◌, ap, ◌∙◌, arith}
use lib.Ieee.{binary32, of_bits}
use Rattle.reducers.specs.Reduce.{reduce}
use Rattle.formulas.specs.Words.{size_bits, fmla, minus_tiny, one, cosine_at}
use Rattle.formulas.specs.Radians.{cos_near, cos_of, cosf}
use Rattle.formulas.proofs.Ways.{cosf-line, cosf-near, cosf-nan, cosf-far}
use Rattle.functions.proofs.Wording.{size_is, nan_way, narrow_way}
use Rattle.functions.proofs.cosf.CosfCircular.at.Goals as goal

pub returns-then-x_abs-ge-INFINITE : goal.returns-then-x_abs-ge-INFINITE
returns-then-x_abs-ge-INFINITE c = nan_way cosf c.args.word c.ranges.word.fits (λ x. cosf-nan (size_bits x)) c.if-x_abs-ge-INFINITE.true

pub returns-then-x_abs-lt964689920 : goal.returns-then-x_abs-lt964689920
returns-then-x_abs-lt964689920 c =
    let w = c.args.word in
    let x = of_bits binary32 w in
    let s : size_bits x ≡ w % 2147483648 = size_is w c.ranges.word.fits c.if-x_abs-ge-INFINITE.false in
    narrow_way cosf w (λ z. fmla z minus_tiny one) c.narrow_word.ensures c.f_fmla.ensures c.widened-xd.ensures (ap cos_of s ∙ cosf-line (w % 2147483648) (omega arith))

pub returns-then-x_abs-le1044975579 : goal.returns-then-x_abs-le1044975579
returns-then-x_abs-le1044975579 c =
    let w = c.args.word in
    let x = of_bits binary32 w in
    let s : size_bits x ≡ w % 2147483648 = size_is w c.ranges.word.fits c.if-x_abs-ge-INFINITE.false in
    narrow_way cosf w cos_near c.narrow_word-then-x_abs-le1044975579.ensures c.even.ensures c.widened-xd.ensures (ap cos_of s ∙ cosf-near (w % 2147483648) (omega arith) (omega arith))

pub returns : goal.returns
returns c =
    let w = c.args.word in
    let x = of_bits binary32 w in
    let s : size_bits x ≡ w % 2147483648 = size_is w c.ranges.word.fits c.if-x_abs-ge-INFINITE.false in
    narrow_way cosf w (λ z. cosine_at (reduce z (w % 2147483648))) c.narrow_word-2.ensures c.cos_by_table.ensures c.widened-xd.ensures (ap cos_of s ∙ cosf-far (w % 2147483648) (omega arith) (omega arith))
