use Rattle.std.proofs.Common.{◌≡◌, ◌%◌, true, false, ◌||◌, leb, sym, ap, ◌∙◌, arith}
use lib.Ieee.{binary32, binary64, mul, of_bits, to_bits}
use Rattle.rounding.specs.Bits.{whole_bits}
use Rattle.reducers.specs.Reduce.{reduce_quarter}
use Rattle.formulas.specs.Words.{size_bits, fmla}
use Rattle.formulas.specs.HalfTurns.{pi, minus_pi3_over6, sinpi_near, sine_by, by_quarter, sinpif}
use Rattle.formulas.proofs.Ways.{sinpif-zero, sinpif-tiny, sinpif-near, sinpif-nan, sinpif-rest, large-whole, digits-whole, not_whole}
use Rattle.functions.proofs.Wording.{clean, size_is, nan_way, same_way, narrow_way}
use Rattle.functions.proofs.sinpif.SinpifCircular.at.Goals as goal
use Rattle.functions.proofs.sinpif.SinpifCircular.at.Goals.{then-x_abs-ge1258291200-via-then-x_abs-ge1258291200, then-x_abs-ge1258291200-via-else-x_abs-ge1258291200+then-is_integerf}

pub returns-then-x_abs-ge-INFINITE : goal.returns-then-x_abs-ge-INFINITE
returns-then-x_abs-ge-INFINITE c = nan_way sinpif c.args.word c.ranges.word.fits sinpif-nan c.if-x_abs-ge-INFINITE.true

pub returns-then-x_abs-eq0 : goal.returns-then-x_abs-eq0
returns-then-x_abs-eq0 c =
    let w = c.args.word in
    let s = size_is w c.ranges.word.fits c.if-x_abs-ge-INFINITE.false in
    same_way sinpif w c.ranges.word.fits c.if-x_abs-ge-INFINITE.false (sinpif-zero (of_bits binary32 w) (s ∙ c.if-x_abs-eq0.true))

pub returns-then-x_abs-lt897589542 : goal.returns-then-x_abs-lt897589542
returns-then-x_abs-lt897589542 c =
    let w = c.args.word in
    let x = of_bits binary32 w in
    let s : size_bits x ≡ w % 2147483648 = size_is w c.ranges.word.fits c.if-x_abs-ge-INFINITE.false in
    narrow_way sinpif w (λ z. mul binary64 z (fmla (mul binary64 z z) minus_pi3_over6 pi)) c.narrow_word.ensures (ap (mul binary64 c.widened-xd.result) c.f_fmla.ensures) c.widened-xd.ensures (sinpif-tiny x (λ e. omega arith) (omega arith))

pub returns-then-x_abs-le1031798784 : goal.returns-then-x_abs-le1031798784
unfolding sinpi_near
returns-then-x_abs-le1031798784 c =
    let w = c.args.word in
    let x = of_bits binary32 w in
    let s : size_bits x ≡ w % 2147483648 = size_is w c.ranges.word.fits c.if-x_abs-ge-INFINITE.false in
    narrow_way sinpif w sinpi_near c.narrow_word-then-x_abs-le1031798784.ensures c.odd.ensures c.widened-xd.ensures (sinpif-near x (omega arith) (omega arith))

pub float_from_bits-word : goal.float_from_bits-word
float_from_bits-word c = clean c.args.word c.if-x_abs-ge-INFINITE.false

pub returns-then-x_abs-ge1258291200 : goal.returns-then-x_abs-ge1258291200
returns-then-x_abs-ge1258291200 c =
    let w = c.args.word in
    let x = of_bits binary32 w in
    let s : size_bits x ≡ w % 2147483648 = size_is w c.ranges.word.fits c.if-x_abs-ge-INFINITE.false in
    let e : (leb 0x4b000000 (size_bits x) || whole_bits x) ≡ true = elim c.then-x_abs-ge1258291200.branch [
      | then-x_abs-ge1258291200-via-then-x_abs-ge1258291200 v ↦ large-whole (size_bits x) (whole_bits x) (omega (arith, s, v.if-x_abs-ge1258291200.true))
      | then-x_abs-ge1258291200-via-else-x_abs-ge1258291200+then-is_integerf v ↦ digits-whole (size_bits x) (whole_bits x) (sym v.is_integerf.ensures.is ∙ v.if-is_integerf.true)
    ] in
    c.zero_like.ensures ∙ ap (to_bits binary32) (sym (sinpif-rest x true (omega arith) (omega arith) e))

pub returns : goal.returns
returns c =
    let w = c.args.word in
    let x = of_bits binary32 w in
    let s : size_bits x ≡ w % 2147483648 = size_is w c.ranges.word.fits c.if-x_abs-ge-INFINITE.false in
    narrow_way sinpif w (λ z. by_quarter sine_by (reduce_quarter z)) c.narrow_word-2.ensures c.by_quarter.ensures c.widened-xd.ensures
    (sinpif-rest x false (omega arith) (omega arith) (not_whole (size_bits x) (whole_bits x) (omega arith) (sym c.is_integerf.ensures.is ∙ c.if-is_integerf.false)))
