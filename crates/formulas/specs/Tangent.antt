-- How far the tangents are from the exact ones. Definitions only.
use Rattle.std.specs.Prelude.{◌≡◌, ℕ, ◌%◌, ◌^◌, ◌<◌, T, ◌≢◌, ◌⊎◌, ℤ, ◌==◌, from_bits, to_bits, unsigned_abs, Float}
use Rattle.std.specs.Float.{inf, binary32}
use Rattle.std.specs.Float.Ieee.Scale.{finite}
use Rattle.exact.specs.Fraction.{Fraction, ◌≈◌, ◌⊕◌, ◌⊗◌, frac, tiny, abs, Within}
use Rattle.exact.specs.Value.{value_of, integer}
use Rattle.circle.specs.Circle.{exact_sine, exact_cosine}
use Rattle.reducers.specs.Exact.{field, radian_steps}
use Rattle.formulas.specs.Radians.{tanf}
use Rattle.formulas.specs.HalfTurns.{tanpif}
use Rattle.formulas.specs.Distance.{half_turn_steps, ElsewhereNan}

-- a is finite, and a times the cosine of u steps is within 2 ^ -23 and |a| 2 ^ -35 of the sine
pub record Tangential (a : Float) (u : Fraction) : Type 0 where
  pub fin : T (finite a)
  pub near : Within (value_of a ⊗ exact_cosine u) (exact_sine u) (tiny 23 ⊕ abs (value_of a) ⊗ tiny 35)

-- x is n + 1 / 2
abbrev pub IsHalf : Float → ℤ → Type 0
IsHalf x n = value_of x ≈ integer n ⊕ frac 1 2

-- x is n + 1 / 2 for a whole number n, and a is infinite: positive for even n, negative for odd n
pub record AtHalf (x a : Float) : Type 0 where
  pub n : ℤ
  pub is : IsHalf x n
  pub infinite : a ≡ inf (unsigned_abs n % 2 == 1)

-- x is n + 1 / 2 for no whole number n, and a is finite and near the tangent of x half turns
pub record OffHalf (x a : Float) : Type 0 where
  pub apart : (n : ℤ) → IsHalf x n → ⊥
  pub near : Tangential a (half_turn_steps x)

-- at every finite word the tangent of radians is finite and near
abbrev pub RadianTangent : Type 0
RadianTangent = (w : ℕ) → w < 2 ^ 32 → field w ≢ 255 → Tangential (tanf (from_bits binary32 w)) (radian_steps (from_bits binary32 w))

-- at every finite word the tangent of half turns is infinite at a whole number and a half, and else finite and near
abbrev pub HalfTurnTangent : Type 0
HalfTurnTangent = (w : ℕ) → w < 2 ^ 32 → field w ≢ 255 → AtHalf (from_bits binary32 w) (tanpif (from_bits binary32 w)) ⊎ OffHalf (from_bits binary32 w) (tanpif (from_bits binary32 w))

-- of infinities and NaNs neither is a number
abbrev pub TangentsNotFinite : Type 0
TangentsNotFinite = ElsewhereNan tanf × ElsewhereNan tanpif

-- of a float x whose word has not the exponent field 255, r is finite and near the tangent of u steps
abbrev pub NearTangent : Float → Float → Fraction → Type 0
NearTangent x r u = field (to_bits binary32 x) ≢ 255 → Tangential r u

-- of such a float, r is infinite if x is a whole number and a half, and else finite and near the tangent of x half turns
abbrev pub HalfOrNear : Float → Float → Type 0
HalfOrNear x r = field (to_bits binary32 x) ≢ 255 → AtHalf x r ⊎ OffHalf x r
