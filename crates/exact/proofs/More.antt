-- The fused product and sum, and quotients.
use Rattle.std.proofs.Common.{zero, suc, ◌*◌, ◌<◌, Bool, true, false, T, zero-lt-suc, mul-pos, arith, ltb→lt, lt→ltb}
use lib.Ieee.{Float, Format, nan, inf, fin, up, down, unlike}
use lib.Ieee.Fits.{up_pos, down_pos}
use lib.Ieee.Scale.{finite}
use Rattle.std.specs.Float.{float_mul_add}
use Rattle.exact.specs.Fraction.{Fraction, ◌≈◌, ◌⊕◌, ◌⊗◌, whole}
use Rattle.exact.specs.Rounded.{Rounded}
use Rattle.exact.specs.Value.{value_of, signed}
use Rattle.exact.specs.Laws.{DivisionRounds, Quotients}
use Rattle.exact.proofs.Order.{≈-refl, ≈-trans, ⊗-cong, ⊗-assoc, ⊗-one}
use Rattle.exact.proofs.Rounding.{sum-rounded, div-rounded, nonzero}

-- ---- x * y + z rounded once
pub fused_rounded : (f : Format) (x y z : Float) → T (finite x) → T (finite y) → T (finite z) → Rounded f (float_mul_add f x y z) (value_of x ⊗ value_of y ⊕ value_of z)
unfolding float_mul_add
fused_rounded f nan y z p q r = absurd p
fused_rounded f (inf s) y z p q r = absurd p
fused_rounded f (fin s m e) nan z p q r = absurd q
fused_rounded f (fin s m e) (inf t) z p q r = absurd q
fused_rounded f (fin s m e) (fin t n d) nan p q r = absurd r
fused_rounded f (fin s m e) (fin t n d) (inf u) p q r = absurd r
fused_rounded f (fin s m e) (fin t n d) (fin u k g) p q r =
    sum-rounded f (unlike s t) (m * up e * (n * up d) * down g) u (k * up g * (down e * down d)) (down e * down d * down g) K (value_of (fin s m e) ⊗ value_of (fin t n d) ⊕ value_of (fin u k g)) (go s t u)
  where
    K : 0 < down e * down d * down g
    K = mul-pos (mul-pos (down_pos e) (down_pos d)) (down_pos g)

    go : (s t u : Bool) → signed (unlike s t) (m * up e * (n * up d) * down g) (down e * down d * down g) K ⊕ signed u (k * up g * (down e * down d)) (down e * down d * down g) K ≈ value_of (fin s m e) ⊗ value_of (fin t n d) ⊕ value_of (fin u k g)
    go true true true = record { eq = omega arith }
    go true true false = record { eq = omega arith }
    go true false true = record { eq = omega arith }
    go true false false = record { eq = omega arith }
    go false true true = record { eq = omega arith }
    go false true false = record { eq = omega arith }
    go false false true = record { eq = omega arith }
    go false false false = record { eq = omega arith }

-- ---- 1 / y
pub inverse : (y : Float) → T (nonzero y) → Fraction
inverse nan p = absurd p
inverse (inf s) p = absurd p
inverse (fin s m e) p = signed s (down e) (m * up e) (mul-pos (ltb→lt 0 m p) (up_pos e))

inverse-is : (y : Float) (p : T (nonzero y)) → inverse y p ⊗ value_of y ≈ whole 1
unfolding inverse
inverse-is nan p = absurd p
inverse-is (inf s) p = absurd p
inverse-is (fin true m e) p = record { eq = omega arith }
inverse-is (fin false m e) p = record { eq = omega arith }

-- ---- a divisor that is not zero
pub not_zero : (y : Float) → T (finite y) → (value_of y ≈ whole 0 → ⊥) → T (nonzero y)
not_zero nan p h = absurd p
not_zero (inf s) p h = absurd p
not_zero (fin false zero e) p h = absurd (h (record { eq = omega arith }))
not_zero (fin true zero e) p h = absurd (h (record { eq = omega arith }))
not_zero (fin s (suc m) e) p h = lt→ltb 0 (suc m) (zero-lt-suc m)

pub division_rounds : DivisionRounds
division_rounds f x y v p q h e = div-rounded f x y v p (not_zero y q h) e

pub quotients : Quotients
quotients x y q h =
    let n = not_zero y q h in
    record { v = value_of x ⊗ inverse y n; is = ≈-trans (⊗-assoc (value_of x) (inverse y n) (value_of y)) (≈-trans (⊗-cong (≈-refl (value_of x)) (inverse-is y n)) (⊗-one (value_of x))) }
