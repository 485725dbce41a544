-- What holds of the six at each f32: the answer is an f32, and near the exact one. Laws of the trait.
use Rattle.std.specs.Prelude.{ℕ, zero, suc, ◌*◌, ◌%◌, Bool, true, false, cond, ◌&&◌, ◌||◌, ◌⊎◌, T}
use Rattle.std.proofs.Common.{eqb, ltb, leb}
use lib.Ieee.{Float, Format, binary32, binary64, nan, inf, fin, up, down, mul, eq, fits, neg, of_bits}
use lib.Ieee.Fits.{cond-fits, nan-fits, inf-fits, neg-fits, round-fits}
use lib.Ieee.Bits.{of_bits-fits}
use Rattle.std.specs.Float.{round_to_format, is_sign_negative, float_with_sign}
use Rattle.rounding.specs.Bits.{whole_bits, odd_bits}
use Rattle.reducers.specs.Reduce.{reduce, reduce_pi, reduce_quarter}
use Rattle.circle.specs.Circle.{exact_sine, exact_cosine}
use Rattle.reducers.specs.Exact.{mod_turn, radian_steps}
use Rattle.table.specs.Tangents.{tangent64}
use Rattle.formulas.specs.Words.{size_bits, fmla, narrowed, one, zero64, minus_tiny, zero_of, sine_at, cosine_at, tangent_at}
use Rattle.formulas.specs.Radians.{infinite, sin_near, cos_near, tan_near, sinf, cos_of, cosf, tanf}
use Rattle.formulas.specs.HalfTurns.{pi, minus_pi3_over6, pi3_over3, sinpi_near, cospi_near, sine_by, cosine_by, by_quarter, sinpif, cospi_of, cospif, tanpi_by, tanpi_at, tanpif}
use Rattle.formulas.specs.Distance.{Near, half_turn_steps}
use Rattle.formulas.specs.Tangent.{Tangential, AtHalf, OffHalf, NearTangent, HalfOrNear}
use Rattle.formulas.proofs.Floats.{at-float, near-float}
use Rattle.formulas.proofs.Radians.{radian-sine, radian-cosine}
use Rattle.formulas.proofs.HalfTurns.{half-turn-sine, half-turn-cosine}
use Rattle.formulas.proofs.TangentRadians.{radian_tangent}
use Rattle.formulas.proofs.TangentHalfTurns.{half_turn_tangent}

-- ---- the answer is an f32, by the ways through the definition
-- the nearest value of a format is in it
nearest-fits : (f : Format) (x : Float) → T (fits f (round_to_format f x))
unfolding round_to_format
nearest-fits f nan = nan-fits f
nearest-fits f (inf s) = inf-fits f s
nearest-fits f (fin s m e) = round-fits f s (m * up e) (down e)

-- zero itself, a line, a polynomial, no number or the table: all f32
by_line : (a b c d : Bool) (x p q r : Float) → T (fits binary32 x) → T (fits binary32 (cond a (cond b (cond c x (narrowed p)) (narrowed q)) (cond d nan (narrowed r))))
by_line true true true d x p q r h = h
by_line true true false d x p q r h = nearest-fits binary32 p
by_line true false c d x p q r h = nearest-fits binary32 q
by_line false b c true x p q r h = nan-fits binary32
by_line false b c false x p q r h = nearest-fits binary32 r

-- a line, a polynomial, no number or the rest, which is an f32
by_two : (a b d : Bool) (p q r : Float) → T (fits binary32 r) → T (fits binary32 (cond a (cond b (narrowed p) (narrowed q)) (cond d nan r)))
by_two true true d p q r h = nearest-fits binary32 p
by_two true false d p q r h = nearest-fits binary32 q
by_two false b true p q r h = nan-fits binary32
by_two false b false p q r h = h

-- zero itself, two terms, a polynomial, no number, whole numbers or quarter turns: all f32
by_three : (a b c d e : Bool) (x p q z r : Float) → T (fits binary32 x) → T (fits binary32 z) → T (fits binary32 (cond a (cond b (cond c x (narrowed p)) (narrowed q)) (cond d nan (cond e z (narrowed r)))))
by_three true true true d e x p q z r h k = h
by_three true true false d e x p q z r h k = nearest-fits binary32 p
by_three true false c d e x p q z r h k = nearest-fits binary32 q
by_three false b c true e x p q z r h k = nan-fits binary32
by_three false b c false true x p q z r h k = k
by_three false b c false false x p q z r h k = nearest-fits binary32 r

-- of two f32 either
either : (t : Bool) (x y : Float) → T (fits binary32 x) → T (fits binary32 y) → T (fits binary32 (cond t x y))
either = cond-fits binary32

-- the sine of radians of an f32 is one
pub sinf-fits : (x : Float) → T (fits binary32 x) → T (fits binary32 (sinf x))
unfolding sinf
sinf-fits x h = by_line (leb (size_bits x) 0x3e490fdb) (ltb (size_bits x) 0x39e89769) (eqb (size_bits x) 0) (leb infinite (size_bits x)) x (fmla x minus_tiny x) (sin_near x) (sine_at (reduce x (size_bits x))) h

-- the cosine of radians of an f32 is one
pub cosf-fits : (x : Float) → T (fits binary32 x) → T (fits binary32 (cosf x))
unfolding cos_of
cosf-fits x h =
    let w = size_bits x in
    let y = of_bits binary32 w in
    by_two (leb w 0x3e490fdb) (ltb w 0x39800000) (leb infinite w) (fmla y minus_tiny one) (cos_near y) (narrowed (cosine_at (reduce y w))) (nearest-fits binary32 (cosine_at (reduce y w)))

-- the tangent of radians of an f32 is one
pub tanf-fits : (x : Float) → T (fits binary32 x) → T (fits binary32 (tanf x))
unfolding tanf
tanf-fits x h = by_line (leb (size_bits x) 0x3dc90fdb) (ltb (size_bits x) 0x39800000) (eqb (size_bits x) 0) (leb infinite (size_bits x)) x (fmla x minus_tiny x) (tan_near x) (tangent_at (reduce x (size_bits x))) h

-- an f32 with either sign
with-fits : (t : Bool) (x : Float) → T (fits binary32 x) → T (fits binary32 (float_with_sign t x))
unfolding float_with_sign fits
with-fits t nan h = h
with-fits t (inf s) h = tt
with-fits t (fin s zero e) h = h
with-fits t (fin s (suc m) e) h = h

-- a zero with the sign of x
zero-fits : (x : Float) → T (fits binary32 (zero_of x))
zero-fits x = with-fits (is_sign_negative x) (of_bits binary32 0) (of_bits-fits binary32 0)

-- the sine of half turns of an f32 is one
pub sinpif-fits : (x : Float) → T (fits binary32 x) → T (fits binary32 (sinpif x))
unfolding sinpif
sinpif-fits x h =
    by_three (leb (size_bits x) 0x3d800000) (ltb (size_bits x) 0x35802126) (eqb (size_bits x) 0) (leb infinite (size_bits x)) (leb 0x4b000000 (size_bits x) || whole_bits x) x (mul binary64 x (fmla (mul binary64 x x) minus_pi3_over6 pi)) (sinpi_near x) (zero_of x) (by_quarter sine_by (reduce_quarter x)) h (zero-fits x)

-- 1
one-fits : T (fits binary32 (of_bits binary32 0x3f800000))
one-fits = of_bits-fits binary32 0x3f800000

-- -1
minus-fits : T (fits binary32 (neg (of_bits binary32 0x3f800000)))
minus-fits = neg-fits binary32 (of_bits binary32 0x3f800000) one-fits

-- the cosine of half turns of an f32 is one
pub cospif-fits : (x : Float) → T (fits binary32 x) → T (fits binary32 (cospif x))
unfolding cospi_of
cospif-fits x h =
    let w = size_bits x in
    let y = of_bits binary32 w in
    let u = neg (of_bits binary32 0x3f800000) in
    let v = of_bits binary32 0x3f800000 in
    let r = by_quarter cosine_by (reduce_quarter y) in
    by_two (leb w 0x3d800000) (ltb w 0x38a2f984) (leb infinite w) (fmla y minus_tiny one) (cospi_near y) (cond (leb 0x4b000000 w || whole_bits y) (cond (odd_bits y) u v) (narrowed r))
    (either (leb 0x4b000000 w || whole_bits y) (cond (odd_bits y) u v) (narrowed r) (either (odd_bits y) u v minus-fits one-fits) (nearest-fits binary32 r))

-- two terms or the table
by_fits : (x y : Float) (k : ℕ) → T (fits binary32 (tanpi_by x y k))
unfolding tanpi_by
by_fits x y k =
    let a = mul binary64 (fmla (mul binary64 x x) pi3_over3 pi) x in
    either (ltb (size_bits x) 0x38d1b717) (narrowed a) (narrowed (tangent64 y k)) (nearest-fits binary32 a) (nearest-fits binary32 (tangent64 y k))

-- the exact values at quarters, or between them
at-fits : (x y : Float) (k : ℕ) → T (fits binary32 (tanpi_at x y k))
unfolding tanpi_at
at-fits x y k = go (eq y zero64 && eqb (k % 32) 0) (eq y zero64 && eqb (k % 32) 16) (eq y zero64 && eqb (k % 32) 8) (eq y zero64 && eqb (k % 32) 24)
  where
    go : (a b c d : Bool) → T (fits binary32 (cond a (cond (leb 32 k) (neg (zero_of x)) (zero_of x)) (cond b (inf (leb 32 k)) (cond c (of_bits binary32 0x3f800000) (cond d (neg (of_bits binary32 0x3f800000)) (tanpi_by x y k))))))
    go true b c d = either (leb 32 k) (neg (zero_of x)) (zero_of x) (neg-fits binary32 (zero_of x) (zero-fits x)) (zero-fits x)
    go false true c d = inf-fits binary32 (leb 32 k)
    go false false true d = one-fits
    go false false false true = minus-fits
    go false false false false = by_fits x y k

-- the tangent of half turns of an f32 is one
pub tanpif-fits : (x : Float) → T (fits binary32 x) → T (fits binary32 (tanpif x))
unfolding tanpif
tanpif-fits x h =
    let r = reduce_pi x in
    let t = tanpi_at x r.0 (mod_turn r.1) in
    either (leb infinite (size_bits x)) nan (cond (leb 0x4b800000 (size_bits x)) (zero_of x) t) (nan-fits binary32) (either (leb 0x4b800000 (size_bits x)) (zero_of x) t (zero-fits x) (at-fits x r.0 (mod_turn r.1)))

-- ---- it is near the exact one
-- the sine of radians of an f32 is near the exact one
pub sinf-near : (x : Float) → T (fits binary32 x) → Near x (sinf x) (exact_sine (radian_steps x))
sinf-near = near-float sinf radian_steps exact_sine radian-sine

-- the cosine of radians of an f32 is near the exact one
pub cosf-near : (x : Float) → T (fits binary32 x) → Near x (cosf x) (exact_cosine (radian_steps x))
cosf-near = near-float cosf radian_steps exact_cosine radian-cosine

-- the tangent of radians of an f32 is near the exact one
pub tanf-near : (x : Float) → T (fits binary32 x) → NearTangent x (tanf x) (radian_steps x)
tanf-near = at-float (λ x. Tangential (tanf x) (radian_steps x)) radian_tangent

-- the sine of half turns of an f32 is near the exact one
pub sinpif-near : (x : Float) → T (fits binary32 x) → Near x (sinpif x) (exact_sine (half_turn_steps x))
sinpif-near = near-float sinpif half_turn_steps exact_sine half-turn-sine

-- the cosine of half turns of an f32 is near the exact one
pub cospif-near : (x : Float) → T (fits binary32 x) → Near x (cospif x) (exact_cosine (half_turn_steps x))
cospif-near = near-float cospif half_turn_steps exact_cosine half-turn-cosine

-- the tangent of half turns of an f32 is near the exact one
pub tanpif-near : (x : Float) → T (fits binary32 x) → HalfOrNear x (tanpif x)
tanpif-near = at-float (λ x. AtHalf x (tanpif x) ⊎ OffHalf x (tanpif x)) half_turn_tangent
