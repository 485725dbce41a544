-- The polynomials and lines of the four functions against the series, before narrowing.
use Rattle.std.proofs.Common.{ℕ, ◌-◌, ◌^◌, T}
use lib.Count.{count_trailing_zeros}
use lib.Ieee.{Float, binary64, of_bits, of_fields, odd, size, mul}
use Rattle.exact.specs.Fraction.{Fraction, ◌⊑◌, ◌⊕◌, ◌⊖◌, whole, frac, tiny, Size, Within, leq}
use Rattle.exact.specs.Straight.{Exp, var as arg, scan}
use Rattle.exact.specs.Value.{value_of, Good, Held}
use Rattle.exact.proofs.Order.{by-test, ≈-refl, ⊕-cong, neg_cong, size-≈, size→within}
use Rattle.exact.proofs.Poly.{Expr, var, con, ◌:+◌, ◌:*◌, ◌:-◌, val, small, same}
use Rattle.exact.proofs.Cert.{ring}
use Rattle.exact.proofs.Bound.{bound}
use Rattle.circle.specs.Series.{sin_series, cos_series}
use Rattle.circle.specs.Circle.{step}
use Rattle.circle.proofs.Sines.{nest_e, sin_e, cos_e, sin_is, cos_is}
use Rattle.forms.specs.Polyeval.{polyeval6}
use Rattle.formulas.specs.Words.{fmla, narrowed, one as one64, minus_tiny}
use Rattle.formulas.specs.Radians.{sin_near_in, sin_near, cos_near_in, cos_near}
use Rattle.formulas.specs.HalfTurns.{pi, minus_pi3_over6, sinpi_near_in, sinpi_near, cospi_near_in, cospi_near, sinpi_y_in, sinpi_y, cospi_y_in, cospi_y}
use Rattle.formulas.specs.Polynomials.{SineSeries, CosineSeries, HalfSineSeries, HalfCosineSeries, QuarterSineSeries, QuarterCosineSeries}
use Rattle.formulas.proofs.Narrowed.{short, Closer, one-closer}
use Rattle.formulas.proofs.Angles.{half_turns}
use Rattle.formulas.proofs.Trees.{own, square, mla_e, mul_e, meant, one, sound, against, plainly, middle, two, about_middle}

-- an f64 by its bits
abbrev c : ℕ → Float
c = of_bits binary64

-- the angle of a half turn
abbrev angle : Expr
angle = con (whole 32) :* con step

-- a b + c as an expression
abbrev mla_x : Expr → Expr → Expr → Expr
mla_x a b d = a :* b :+ d

-- a b as an expression
abbrev mul_x : Expr → Expr → Expr
mul_x a b = a :* b

-- ---- radians
-- the sine up to 1 / 5
sine-tree : Exp
sine-tree = sin_near_in mla_e mul_e own (arg 0)

sine-sound : (x : Float) (H : Held x (frac 1 5)) → T (sound x (frac 1 5) H sine-tree (tiny 50))
unfolding leq scan size of_bits of_fields odd count_trailing_zeros sine-tree
sine-sound x H = tt

sine-small : (y : Fraction) → T (small (one y (frac 1 5)) (tiny 44) (meant sine-tree :- sin_e (var 0)))
unfolding small leq sine-tree sin_e of_bits of_fields odd count_trailing_zeros
sine-small y = tt

pub sine-series : SineSeries
unfolding sine-tree
sine-series x h = size→within (size-≈ (⊕-cong (≈-refl (val (one x (frac 1 5)) (meant sine-tree))) (neg_cong (sin_is (one x (frac 1 5)) (var 0)))) (bound (one x (frac 1 5)) (h, tt) (tiny 44) (meant sine-tree :- sin_e (var 0)) (sine-small x)))

pub sine-near : (x : Float) → Held x (frac 1 5) → Good (sin_near x) (sin_series (value_of x)) short
unfolding leq sine-tree
sine-near x H = against x (frac 1 5) H sine-tree (sin_e (var 0)) (sin_series (value_of x)) (tiny 50) (tiny 44) short (sine-sound x H) (plainly x (frac 1 5) H (meant sine-tree :- sin_e (var 0)) (tiny 44) (sine-small (value_of x))) (sin_is (one (value_of x) (frac 1 5)) (var 0)) tt

-- the cosine up to 1 / 5
cosine-tree : Exp
cosine-tree = cos_near_in mla_e mul_e own (arg 0)

cosine-sound : (x : Float) (H : Held x (frac 1 5)) → T (sound x (frac 1 5) H cosine-tree (tiny 50))
unfolding leq scan size of_bits of_fields odd count_trailing_zeros cosine-tree
cosine-sound x H = tt

cosine-small : (y : Fraction) → T (small (one y (frac 1 5)) (tiny 41) (meant cosine-tree :- cos_e (var 0)))
unfolding small leq cosine-tree cos_e of_bits of_fields odd count_trailing_zeros
cosine-small y = tt

pub cosine-series : CosineSeries
unfolding cosine-tree
cosine-series x h = size→within (size-≈ (⊕-cong (≈-refl (val (one x (frac 1 5)) (meant cosine-tree))) (neg_cong (cos_is (one x (frac 1 5)) (var 0)))) (bound (one x (frac 1 5)) (h, tt) (tiny 41) (meant cosine-tree :- cos_e (var 0)) (cosine-small x)))

pub cosine-near : (x : Float) → Held x (frac 1 5) → Good (cos_near x) (cos_series (value_of x)) short
unfolding leq cosine-tree
cosine-near x H = against x (frac 1 5) H cosine-tree (cos_e (var 0)) (cos_series (value_of x)) (tiny 50) (tiny 41) short (cosine-sound x H) (plainly x (frac 1 5) H (meant cosine-tree :- cos_e (var 0)) (tiny 41) (cosine-small (value_of x))) (cos_is (one (value_of x) (frac 1 5)) (var 0)) tt

-- x - x / 2 ^ 25, up to 30 / 2 ^ 16
line-tree : Exp
line-tree = mla_e (arg 0) (own minus_tiny) (arg 0)

line-sound : (x : Float) (H : Held x (frac 30 65536)) → T (sound x (frac 30 65536) H line-tree (tiny 60))
unfolding leq scan size of_bits of_fields odd count_trailing_zeros line-tree
line-sound x H = tt

-- the rest, with z for the square
line-parts : Expr → Expr
unfolding nest_e
line-parts z = var 0 :* (con (value_of minus_tiny) :+ con (whole 1) :- nest_e 12 1 z)

line_small : (y : Fraction) → T (small (two y (frac 30 65536)) (tiny 36 ⊖ tiny 40) (line-parts (var 1 :+ con (middle (frac 30 65536)))))
unfolding small leq line-parts of_bits of_fields odd count_trailing_zeros
line_small y = tt

line_same : T (same 1 (line-parts ((var 0 :* var 0 :- con (middle (frac 30 65536))) :+ con (middle (frac 30 65536)))) (meant line-tree :- sin_e (var 0)))
unfolding same line-parts line-tree sin_e of_bits of_fields odd count_trailing_zeros
line_same = tt

line-size : (y : Fraction) → Size y (frac 30 65536) → Size (val (one y (frac 30 65536)) (meant line-tree :- sin_e (var 0))) (tiny 36 ⊖ tiny 40)
unfolding line-parts
line-size y h = size-≈ (ring (one y (frac 30 65536)) (line-parts ((var 0 :* var 0 :- con (middle (frac 30 65536))) :+ con (middle (frac 30 65536)))) (meant line-tree :- sin_e (var 0)) line_same) (bound (two y (frac 30 65536)) (h, (about_middle y (frac 30 65536) h, tt)) (tiny 36 ⊖ tiny 40) (line-parts (var 1 :+ con (middle (frac 30 65536)))) (line_small y))

pub line-near : (x : Float) → Held x (frac 30 65536) → Good (fmla x minus_tiny x) (sin_series (value_of x)) short
unfolding leq line-tree
line-near x H = against x (frac 30 65536) H line-tree (sin_e (var 0)) (sin_series (value_of x)) (tiny 60) (tiny 36 ⊖ tiny 40) short (line-sound x H) (line-size (value_of x) H.size) (sin_is (one (value_of x) (frac 30 65536)) (var 0)) tt

-- next to zero the argument itself
pub zero-sound : (x : Float) (H : Held x (tiny 60)) → T (sound x (tiny 60) H (arg 0) (tiny 60))
unfolding leq scan
zero-sound x H = tt

zero-small : (x : Float) → T (small (one (value_of x) (tiny 60)) (tiny 60) (meant (arg 0) :- sin_e (var 0)))
unfolding small leq sin_e
zero-small x = tt

pub zero-near : (x : Float) → Held x (tiny 60) → Good x (sin_series (value_of x)) short
unfolding leq
zero-near x H = against x (tiny 60) H (arg 0) (sin_e (var 0)) (sin_series (value_of x)) (tiny 60) (tiny 60) short (zero-sound x H) (plainly x (tiny 60) H (meant (arg 0) :- sin_e (var 0)) (tiny 60) (zero-small x)) (sin_is (one (value_of x) (tiny 60)) (var 0)) tt

-- 1 - x / 2 ^ 25 below 2 ^ -12
abbrev pub below_twelve : Fraction
below_twelve = frac (2 ^ 24 - 1) (2 ^ 36)

one-tree : Exp
one-tree = mla_e (arg 0) (own minus_tiny) (own one64)

one-sound : (x : Float) (H : Held x below_twelve) → T (sound x below_twelve H one-tree (tiny 52))
unfolding leq scan size of_bits of_fields odd count_trailing_zeros one-tree
one-sound x H = tt

one-small : (x : Float) → T (small (one (value_of x) below_twelve) (tiny 37) (meant one-tree :- con (whole 1)))
unfolding small leq one-tree of_bits of_fields odd count_trailing_zeros
one-small x = tt

pub one-near : (x : Float) → Held x below_twelve → Good (fmla x minus_tiny one64) (whole 1) (tiny 52 ⊕ tiny 37)
unfolding leq one-tree
one-near x H = against x below_twelve H one-tree (con (whole 1)) (whole 1) (tiny 52) (tiny 37) (tiny 52 ⊕ tiny 37) (one-sound x H) (plainly x below_twelve H (meant one-tree :- con (whole 1)) (tiny 37) (one-small x)) (≈-refl (whole 1)) tt

-- a little less than 2 ^ -25
abbrev pub dip : Fraction
dip = tiny 25 ⊖ tiny 49

dip-small : (y : Fraction) → T (small (one y below_twelve) dip (con (whole 1) :- cos_e (var 0)))
unfolding small leq cos_e
dip-small y = tt

pub cosine-dip : (y : Fraction) → Size y below_twelve → Within (whole 1) (cos_series y) dip
cosine-dip y h = size→within (size-≈ (⊕-cong (≈-refl (whole 1)) (neg_cong (cos_is (one y below_twelve) (var 0)))) (bound (one y below_twelve) (h, tt) dip (con (whole 1) :- cos_e (var 0)) (dip-small y)))

one-room : ((tiny 52 ⊕ tiny 37) ⊕ (tiny 52 ⊕ tiny 37)) ⊕ dip ⊑ tiny 25 ⊕ short
unfolding leq
one-room = by-test {a = ((tiny 52 ⊕ tiny 37) ⊕ (tiny 52 ⊕ tiny 37)) ⊕ dip} {b = tiny 25 ⊕ short} tt

-- such a line, narrowed, is close to whatever is as near to 1 as that
pub line-closer : (x : Float) (v : Fraction) → Held x below_twelve → Within (whole 1) v dip → Closer (narrowed (fmla x minus_tiny one64)) v
unfolding leq
line-closer x v H w = one-closer (fmla x minus_tiny one64) v (tiny 52 ⊕ tiny 37) dip (one-near x H) (by-test {a = tiny 52 ⊕ tiny 37} {b = frac 1 4} tt) w one-room

-- ---- half turns
-- next to zero the argument itself will do
half-zero-small : (x : Float) → T (small (one (value_of x) (tiny 60)) (tiny 58) (meant (arg 0) :- sin_e (var 0 :* angle)))
unfolding small leq sin_e step
half-zero-small x = tt

pub half-zero-near : (x : Float) → Held x (tiny 60) → Good x (sin_series (half_turns (value_of x))) short
unfolding leq
half-zero-near x H = against x (tiny 60) H (arg 0) (sin_e (var 0 :* angle)) (sin_series (half_turns (value_of x))) (tiny 60) (tiny 58) short (zero-sound x H) (plainly x (tiny 60) H (meant (arg 0) :- sin_e (var 0 :* angle)) (tiny 58) (half-zero-small x)) (sin_is (one (value_of x) (tiny 60)) (var 0 :* angle)) tt

-- the cosine below 0x38a2f984
abbrev pub below_line : Fraction
below_line = frac 10680707 (2 ^ 37)

half-dip-small : (y : Fraction) → T (small (one y below_line) dip (con (whole 1) :- cos_e (var 0 :* angle)))
unfolding small leq cos_e step
half-dip-small y = tt

pub half-dip : (y : Fraction) → Size y below_line → Within (whole 1) (cos_series (half_turns y)) dip
half-dip y h = size→within (size-≈ (⊕-cong (≈-refl (whole 1)) (neg_cong (cos_is (one y below_line) (var 0 :* angle)))) (bound (one y below_line) (h, tt) dip (con (whole 1) :- cos_e (var 0 :* angle)) (half-dip-small y)))

-- the sine up to 1 / 16
half-sine-tree : Exp
half-sine-tree = sinpi_near_in mla_e mul_e own (arg 0)

half-sine-sound : (x : Float) (H : Held x (frac 1 16)) → T (sound x (frac 1 16) H half-sine-tree (tiny 50))
unfolding leq scan size of_bits of_fields odd count_trailing_zeros half-sine-tree
half-sine-sound x H = tt

half-sine-small : (y : Fraction) → T (small (one y (frac 1 16)) (tiny 44) (meant half-sine-tree :- sin_e (var 0 :* angle)))
unfolding small leq half-sine-tree sin_e step of_bits of_fields odd count_trailing_zeros
half-sine-small y = tt

pub half-sine-series : HalfSineSeries
unfolding half-sine-tree
half-sine-series x h = size→within (size-≈ (⊕-cong (≈-refl (val (one x (frac 1 16)) (meant half-sine-tree))) (neg_cong (sin_is (one x (frac 1 16)) (var 0 :* angle)))) (bound (one x (frac 1 16)) (h, tt) (tiny 44) (meant half-sine-tree :- sin_e (var 0 :* angle)) (half-sine-small x)))

pub half-sine-near : (x : Float) → Held x (frac 1 16) → Good (sinpi_near x) (sin_series (half_turns (value_of x))) short
unfolding leq half-sine-tree sinpi_near
half-sine-near x H = against x (frac 1 16) H half-sine-tree (sin_e (var 0 :* angle)) (sin_series (half_turns (value_of x))) (tiny 50) (tiny 44) short (half-sine-sound x H) (plainly x (frac 1 16) H (meant half-sine-tree :- sin_e (var 0 :* angle)) (tiny 44) (half-sine-small (value_of x))) (sin_is (one (value_of x) (frac 1 16)) (var 0 :* angle)) tt

-- the cosine up to 1 / 16
half-cosine-tree : Exp
half-cosine-tree = cospi_near_in mla_e mul_e own (arg 0)

half-cosine-sound : (x : Float) (H : Held x (frac 1 16)) → T (sound x (frac 1 16) H half-cosine-tree (tiny 50))
unfolding leq scan size of_bits of_fields odd count_trailing_zeros half-cosine-tree
half-cosine-sound x H = tt

half-cosine-small : (y : Fraction) → T (small (one y (frac 1 16)) (tiny 41) (meant half-cosine-tree :- cos_e (var 0 :* angle)))
unfolding small leq half-cosine-tree cos_e step of_bits of_fields odd count_trailing_zeros
half-cosine-small y = tt

pub half-cosine-series : HalfCosineSeries
unfolding half-cosine-tree
half-cosine-series x h = size→within (size-≈ (⊕-cong (≈-refl (val (one x (frac 1 16)) (meant half-cosine-tree))) (neg_cong (cos_is (one x (frac 1 16)) (var 0 :* angle)))) (bound (one x (frac 1 16)) (h, tt) (tiny 41) (meant half-cosine-tree :- cos_e (var 0 :* angle)) (half-cosine-small x)))

pub half-cosine-near : (x : Float) → Held x (frac 1 16) → Good (cospi_near x) (cos_series (half_turns (value_of x))) short
unfolding leq half-cosine-tree cospi_near
half-cosine-near x H = against x (frac 1 16) H half-cosine-tree (cos_e (var 0 :* angle)) (cos_series (half_turns (value_of x))) (tiny 50) (tiny 41) short (half-cosine-sound x H) (plainly x (frac 1 16) H (meant half-cosine-tree :- cos_e (var 0 :* angle)) (tiny 41) (half-cosine-small (value_of x))) (cos_is (one (value_of x) (frac 1 16)) (var 0 :* angle)) tt

-- two terms up to 2 ^ -19
half-tiny-tree : Exp
half-tiny-tree = mul_e (arg 0) (mla_e square (own minus_pi3_over6) (own pi))

half-tiny-sound : (x : Float) (H : Held x (tiny 19)) → T (sound x (tiny 19) H half-tiny-tree (tiny 60))
unfolding leq scan size of_bits of_fields odd count_trailing_zeros half-tiny-tree
half-tiny-sound x H = tt

half-tiny-small : (x : Float) → T (small (one (value_of x) (tiny 19)) (tiny 60) (meant half-tiny-tree :- sin_e (var 0 :* angle)))
unfolding small leq half-tiny-tree sin_e step of_bits of_fields odd count_trailing_zeros
half-tiny-small x = tt

pub half-tiny-near : (x : Float) → Held x (tiny 19) → Good (mul binary64 x (fmla (mul binary64 x x) minus_pi3_over6 pi)) (sin_series (half_turns (value_of x))) short
unfolding leq half-tiny-tree
half-tiny-near x H = against x (tiny 19) H half-tiny-tree (sin_e (var 0 :* angle)) (sin_series (half_turns (value_of x))) (tiny 60) (tiny 60) short (half-tiny-sound x H) (plainly x (tiny 19) H (meant half-tiny-tree :- sin_e (var 0 :* angle)) (tiny 60) (half-tiny-small x)) (sin_is (one (value_of x) (tiny 19)) (var 0 :* angle)) tt

-- up to 1 / 4
abbrev pub piece : Fraction
piece = tiny 48 ⊕ tiny 37

-- the sine up to 1 / 4
quarter-sine-tree : Exp
quarter-sine-tree = sinpi_y_in mla_e mul_e own (arg 0)

quarter-sine-sound : (x : Float) (H : Held x (frac 1 4)) → T (sound x (frac 1 4) H quarter-sine-tree (tiny 48))
unfolding leq scan size of_bits of_fields odd count_trailing_zeros quarter-sine-tree
quarter-sine-sound x H = tt

-- the rest, with z for the square
quarter-sine-parts : Expr → Expr
unfolding nest_e
quarter-sine-parts z = polyeval6 mla_x mul_x z (con (value_of (c 0x400921fb54442cf8))) (con (value_of (c 0xc014abbce6257778))) (con (value_of (c 0x400466bc670fa464))) (con (value_of (c 0xbfe32d2c627f47da))) (con (value_of (c 0x3fb5071be0a2d3da))) (con (value_of (c 0xbf7dd4e0ae5b9fcd))) :* var 0 :- var 0 :* (angle :* nest_e 12 1 (z :* (angle :* angle)))

quarter-sine-small : (y : Fraction) → T (small (two y (frac 1 4)) (tiny 41) (quarter-sine-parts (var 1 :+ con (middle (frac 1 4)))))
unfolding small leq quarter-sine-parts step of_bits of_fields odd count_trailing_zeros
quarter-sine-small y = tt

quarter-sine-same : T (same 1 (quarter-sine-parts ((var 0 :* var 0 :- con (middle (frac 1 4))) :+ con (middle (frac 1 4)))) (meant quarter-sine-tree :- sin_e (var 0 :* angle)))
unfolding same quarter-sine-parts quarter-sine-tree sin_e step of_bits of_fields odd count_trailing_zeros
quarter-sine-same = tt

quarter-sine-size : (y : Fraction) → Size y (frac 1 4) → Size (val (one y (frac 1 4)) (meant quarter-sine-tree :- sin_e (var 0 :* angle))) (tiny 41)
unfolding quarter-sine-parts
quarter-sine-size y h = size-≈ (ring (one y (frac 1 4)) (quarter-sine-parts ((var 0 :* var 0 :- con (middle (frac 1 4))) :+ con (middle (frac 1 4)))) (meant quarter-sine-tree :- sin_e (var 0 :* angle)) quarter-sine-same) (bound (two y (frac 1 4)) (h, (about_middle y (frac 1 4) h, tt)) (tiny 41) (quarter-sine-parts (var 1 :+ con (middle (frac 1 4)))) (quarter-sine-small y))

pub quarter-sine-series : QuarterSineSeries
unfolding quarter-sine-tree
quarter-sine-series x h = size→within (size-≈ (⊕-cong (≈-refl (val (one x (frac 1 4)) (meant quarter-sine-tree))) (neg_cong (sin_is (one x (frac 1 4)) (var 0 :* angle)))) (quarter-sine-size x h))

pub quarter-sine-near : (x : Float) → Held x (frac 1 4) → Good (sinpi_y x) (sin_series (half_turns (value_of x))) piece
unfolding leq quarter-sine-tree sinpi_y
quarter-sine-near x H = against x (frac 1 4) H quarter-sine-tree (sin_e (var 0 :* angle)) (sin_series (half_turns (value_of x))) (tiny 48) (tiny 41) piece (quarter-sine-sound x H) (quarter-sine-size (value_of x) H.size) (sin_is (one (value_of x) (frac 1 4)) (var 0 :* angle)) tt

-- the cosine up to 1 / 4
quarter-cosine-tree : Exp
quarter-cosine-tree = cospi_y_in mla_e mul_e own (arg 0)

quarter-cosine-sound : (x : Float) (H : Held x (frac 1 4)) → T (sound x (frac 1 4) H quarter-cosine-tree (tiny 48))
unfolding leq scan size of_bits of_fields odd count_trailing_zeros quarter-cosine-tree
quarter-cosine-sound x H = tt

quarter-cosine-small : (y : Fraction) → T (small (one y (frac 1 4)) (tiny 37) (meant quarter-cosine-tree :- cos_e (var 0 :* angle)))
unfolding small leq quarter-cosine-tree cos_e step of_bits of_fields odd count_trailing_zeros
quarter-cosine-small y = tt

pub quarter-cosine-series : QuarterCosineSeries
unfolding quarter-cosine-tree
quarter-cosine-series x h = size→within (size-≈ (⊕-cong (≈-refl (val (one x (frac 1 4)) (meant quarter-cosine-tree))) (neg_cong (cos_is (one x (frac 1 4)) (var 0 :* angle)))) (bound (one x (frac 1 4)) (h, tt) (tiny 37) (meant quarter-cosine-tree :- cos_e (var 0 :* angle)) (quarter-cosine-small x)))

pub quarter-cosine-near : (x : Float) → Held x (frac 1 4) → Good (cospi_y x) (cos_series (half_turns (value_of x))) piece
unfolding leq quarter-cosine-tree cospi_y
quarter-cosine-near x H = against x (frac 1 4) H quarter-cosine-tree (cos_e (var 0 :* angle)) (cos_series (half_turns (value_of x))) (tiny 48) (tiny 37) piece (quarter-cosine-sound x H) (plainly x (frac 1 4) H (meant quarter-cosine-tree :- cos_e (var 0 :* angle)) (tiny 37) (quarter-cosine-small (value_of x))) (cos_is (one (value_of x) (frac 1 4)) (var 0 :* angle)) tt
