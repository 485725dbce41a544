use Rattle.std.proofs.Common.{◌≡◌, ℕ, ◌%◌, ◌^◌, ◌<◌, Bool, true, false, ◌||◌, leb, sym, ap, ◌∙◌, arith}
use lib.Ieee.{binary32, of_bits, to_bits}
use Rattle.rounding.specs.Bits.{whole_bits, odd_bits}
use Rattle.reducers.specs.Reduce.{reduce_quarter}
use Rattle.formulas.specs.Words.{size_bits, fmla, minus_tiny, one, on_word}
use Rattle.formulas.specs.HalfTurns.{cospi_near, cosine_by, by_quarter, cospi_of, cospif}
use Rattle.formulas.proofs.Ways.{cospif-line, cospif-near, cospif-nan, cospif-rest, unit, large-whole, digits-whole, not_whole}
use Rattle.functions.proofs.Wording.{clean, size_is, nan_way, narrow_way, one_word, minus_one_word}
use Rattle.functions.proofs.cospif.CospifCircular.at.Goals as goal
use Rattle.functions.proofs.cospif.CospifCircular.at.Goals.{then-x_abs-ge1258291200-via-then-x_abs-ge1258291200, then-x_abs-ge1258291200-via-else-x_abs-ge1258291200+then-is_integerf}

pub returns-then-x_abs-ge-INFINITE : goal.returns-then-x_abs-ge-INFINITE
returns-then-x_abs-ge-INFINITE c = nan_way cospif c.args.word c.ranges.word.fits (λ x. cospif-nan (size_bits x)) c.if-x_abs-ge-INFINITE.true

pub returns-then-x_abs-lt950204804 : goal.returns-then-x_abs-lt950204804
returns-then-x_abs-lt950204804 c =
    let w = c.args.word in
    let s = size_is w c.ranges.word.fits c.if-x_abs-ge-INFINITE.false in
    narrow_way cospif w (λ z. fmla z minus_tiny one) c.narrow_word.ensures c.f_fmla.ensures c.widened-xd.ensures (ap cospi_of s ∙ cospif-line (w % 2147483648) (omega arith))

pub returns-then-x_abs-le1031798784 : goal.returns-then-x_abs-le1031798784
unfolding cospi_near
returns-then-x_abs-le1031798784 c =
    let w = c.args.word in
    let s = size_is w c.ranges.word.fits c.if-x_abs-ge-INFINITE.false in
    narrow_way cospif w cospi_near c.narrow_word-then-x_abs-le1031798784.ensures c.even.ensures c.widened-xd.ensures (ap cospi_of s ∙ cospif-near (w % 2147483648) (omega arith) (omega arith))

pub float_from_bits-x : goal.float_from_bits-x
float_from_bits-x c = clean (c.args.word % 2147483648) (omega (arith, c.if-x_abs-ge-INFINITE.false))

-- a whole number's answer: t is whether it is odd
whole_way : (w : ℕ) (t : Bool) → w < 2 ^ 32 → w % 2147483648 < 2139095040 → 0x3d800000 < w % 2147483648 → (leb 0x4b000000 (w % 2147483648) || whole_bits (of_bits binary32 (w % 2147483648))) ≡ true → t ≡ odd_bits (of_bits binary32 (w % 2147483648)) → to_bits binary32 (unit t) ≡ on_word cospif w
whole_way w t l h k e o = ap (to_bits binary32) (ap unit o ∙ sym (cospif-rest (w % 2147483648) true k h e) ∙ ap cospi_of (sym (size_is w l h)))

pub returns-then-is_odd_integerf : goal.returns-then-is_odd_integerf
returns-then-is_odd_integerf c =
    let w = c.args.word % 2147483648 in
    let x = of_bits binary32 w in
    let e : (leb 0x4b000000 w || whole_bits x) ≡ true = elim c.then-x_abs-ge1258291200.branch [
      | then-x_abs-ge1258291200-via-then-x_abs-ge1258291200 v ↦ large-whole w (whole_bits x) (omega (arith, v.if-x_abs-ge1258291200.true))
      | then-x_abs-ge1258291200-via-else-x_abs-ge1258291200+then-is_integerf v ↦ digits-whole w (whole_bits x) (sym v.is_integerf.ensures.is ∙ v.if-is_integerf.true)
    ] in
    minus_one_word ∙ whole_way c.args.word true c.ranges.word.fits c.if-x_abs-ge-INFINITE.false (omega arith) e (sym c.if-is_odd_integerf.true ∙ c.is_odd_integerf.ensures.is)

pub returns-else-is_odd_integerf : goal.returns-else-is_odd_integerf
returns-else-is_odd_integerf c =
    let w = c.args.word % 2147483648 in
    let x = of_bits binary32 w in
    let e : (leb 0x4b000000 w || whole_bits x) ≡ true = elim c.then-x_abs-ge1258291200.branch [
      | then-x_abs-ge1258291200-via-then-x_abs-ge1258291200 v ↦ large-whole w (whole_bits x) (omega (arith, v.if-x_abs-ge1258291200.true))
      | then-x_abs-ge1258291200-via-else-x_abs-ge1258291200+then-is_integerf v ↦ digits-whole w (whole_bits x) (sym v.is_integerf.ensures.is ∙ v.if-is_integerf.true)
    ] in
    one_word ∙ whole_way c.args.word false c.ranges.word.fits c.if-x_abs-ge-INFINITE.false (omega arith) e (sym c.if-is_odd_integerf.false ∙ c.is_odd_integerf.ensures.is)

pub returns : goal.returns
returns c =
    let w = c.args.word % 2147483648 in
    let x = of_bits binary32 w in
    let s = size_is c.args.word c.ranges.word.fits c.if-x_abs-ge-INFINITE.false in
    narrow_way cospif c.args.word (λ z. by_quarter cosine_by (reduce_quarter z)) c.narrow_word-2.ensures c.by_quarter.ensures c.widened-xd.ensures
    (ap cospi_of s ∙ cospif-rest w false (omega arith) (omega arith) (not_whole w (whole_bits x) (omega arith) (sym c.is_integerf.ensures.is ∙ c.if-is_integerf.false)))
