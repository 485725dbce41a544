use Rattle.std.proofs.Common.{◌≡◌, ◌%◌, ap, ◌∙◌, arith}
use lib.Ieee.{binary32, of_bits}
use Rattle.reducers.specs.Reduce.{reduce}
use Rattle.formulas.specs.Words.{size_bits, fmla, narrowed, minus_tiny, sine_at}
use Rattle.formulas.specs.Radians.{sin_near, sinf}
use Rattle.formulas.proofs.Ways.{sinf-zero, sinf-line, sinf-near, sinf-nan, sinf-far}
use Rattle.functions.proofs.Wording.{size_is, nan_way, same_way, narrow_way}
use Rattle.functions.proofs.sinf.SinfCircular.at.Goals as goal

pub returns-then-x_abs-ge-INFINITE : goal.returns-then-x_abs-ge-INFINITE
returns-then-x_abs-ge-INFINITE c = nan_way sinf c.args.word c.ranges.word.fits sinf-nan c.if-x_abs-ge-INFINITE.true

pub returns-then-x_abs-eq0 : goal.returns-then-x_abs-eq0
returns-then-x_abs-eq0 c =
    let w = c.args.word in
    let s = size_is w c.ranges.word.fits c.if-x_abs-ge-INFINITE.false in
    same_way sinf w c.ranges.word.fits c.if-x_abs-ge-INFINITE.false (sinf-zero (of_bits binary32 w) (s ∙ c.if-x_abs-eq0.true))

pub returns-then-x_abs-lt971544425 : goal.returns-then-x_abs-lt971544425
returns-then-x_abs-lt971544425 c =
    let w = c.args.word in
    let x = of_bits binary32 w in
    let s : size_bits x ≡ w % 2147483648 = size_is w c.ranges.word.fits c.if-x_abs-ge-INFINITE.false in
    narrow_way sinf w (λ z. fmla z minus_tiny z) c.narrow_word.ensures c.f_fmla.ensures c.widened-xd.ensures (sinf-line x (λ e. omega arith) (omega arith))

pub returns-then-x_abs-le1044975579 : goal.returns-then-x_abs-le1044975579
returns-then-x_abs-le1044975579 c =
    let w = c.args.word in
    let x = of_bits binary32 w in
    let s : size_bits x ≡ w % 2147483648 = size_is w c.ranges.word.fits c.if-x_abs-ge-INFINITE.false in
    narrow_way sinf w sin_near c.narrow_word-then-x_abs-le1044975579.ensures c.odd.ensures c.widened-xd.ensures (sinf-near x (omega arith) (omega arith))

pub returns : goal.returns
returns c =
    let w = c.args.word in
    let x = of_bits binary32 w in
    let s : size_bits x ≡ w % 2147483648 = size_is w c.ranges.word.fits c.if-x_abs-ge-INFINITE.false in
    narrow_way sinf w (λ z. sine_at (reduce z (w % 2147483648))) c.narrow_word-2.ensures c.sin_by_table.ensures c.widened-xd.ensures (sinf-far x (omega arith) (omega arith) ∙ ap (λ z. narrowed (sine_at (reduce x z))) s)
