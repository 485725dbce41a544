use Rattle.std.proofs.Common.{◌≡◌, ◌%◌, ap, ◌∙◌, arith}
use lib.Ieee.{binary32, of_bits}
use Rattle.reducers.specs.Reduce.{reduce}
use Rattle.formulas.specs.Words.{size_bits, fmla, narrowed, minus_tiny, tangent_at}
use Rattle.formulas.specs.Radians.{tan_near, tanf}
use Rattle.formulas.proofs.Ways.{tanf-zero, tanf-line, tanf-near, tanf-nan, tanf-far}
use Rattle.functions.proofs.Wording.{size_is, nan_way, same_way, narrow_way}
use Rattle.functions.proofs.tanf.TanfCircular.at.Goals as goal

pub returns-then-x_abs-ge-INFINITE : goal.returns-then-x_abs-ge-INFINITE
returns-then-x_abs-ge-INFINITE c = nan_way tanf c.args.word c.ranges.word.fits tanf-nan c.if-x_abs-ge-INFINITE.true

pub returns-then-x_abs-eq0 : goal.returns-then-x_abs-eq0
returns-then-x_abs-eq0 c =
    let w = c.args.word in
    let s = size_is w c.ranges.word.fits c.if-x_abs-ge-INFINITE.false in
    same_way tanf w c.ranges.word.fits c.if-x_abs-ge-INFINITE.false (tanf-zero (of_bits binary32 w) (s ∙ c.if-x_abs-eq0.true))

pub returns-then-x_abs-lt964689920 : goal.returns-then-x_abs-lt964689920
returns-then-x_abs-lt964689920 c =
    let w = c.args.word in
    let x = of_bits binary32 w in
    let s : size_bits x ≡ w % 2147483648 = size_is w c.ranges.word.fits c.if-x_abs-ge-INFINITE.false in
    narrow_way tanf w (λ z. fmla z minus_tiny z) c.narrow_word.ensures c.f_fmla.ensures c.widened-xd.ensures (tanf-line x (λ e. omega arith) (omega arith))

pub returns-then-x_abs-le1036586971 : goal.returns-then-x_abs-le1036586971
returns-then-x_abs-le1036586971 c =
    let w = c.args.word in
    let x = of_bits binary32 w in
    let s : size_bits x ≡ w % 2147483648 = size_is w c.ranges.word.fits c.if-x_abs-ge-INFINITE.false in
    narrow_way tanf w tan_near c.narrow_word-then-x_abs-le1036586971.ensures c.odd.ensures c.widened-xd.ensures (tanf-near x (omega arith) (omega arith))

pub returns : goal.returns
returns c =
    let w = c.args.word in
    let x = of_bits binary32 w in
    let s : size_bits x ≡ w % 2147483648 = size_is w c.ranges.word.fits c.if-x_abs-ge-INFINITE.false in
    narrow_way tanf w (λ z. tangent_at (reduce z (w % 2147483648))) c.narrow_word-2.ensures c.tan_by_table.ensures c.widened-xd.ensures (tanf-far x (omega arith) (omega arith) ∙ ap (λ z. narrowed (tangent_at (reduce x z))) s)
