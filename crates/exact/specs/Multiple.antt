-- Whole and odd multiples of a fraction, powers of two as fractions, strict sizes. Definitions only.
use Rattle.std.specs.Prelude.{◌≡◌, ℕ, ◌+◌, ◌*◌, ◌^◌, ◌<◌, ◌⊎◌}
use Rattle.std.proofs.Common.{zero-lt-suc, pow_pos}
use Rattle.exact.specs.Fraction.{Fraction, ◌≈◌, ◌⊑◌, ◌⊗◌, neg}

-- p - m
abbrev pub dif : ℕ → ℕ → Fraction
dif p m = record { plus = p; minus = m; den = 1; ok = zero-lt-suc 0 }

-- 2 ^ a / 2 ^ b
abbrev pub pw : ℕ → ℕ → Fraction
pw a b = record { plus = 2 ^ a; minus = 0; den = 2 ^ b; ok = pow_pos b }

-- v is a whole number times u
pub record Multiple (v u : Fraction) : Type 0 where
  pub p : ℕ
  pub m : ℕ
  pub is : v ≈ dif p m ⊗ u

-- v is an odd number times u
pub record OddMultiple (v u : Fraction) : Type 0 where
  pub p : ℕ
  pub m : ℕ
  pub is : v ≈ dif p m ⊗ u
  pub half : ℕ
  pub odd : p + m ≡ 2 * half + 1

-- |a| < c
pub record Smaller (a c : Fraction) : Type 0 where
  pub below : a.plus * c.den + c.minus * a.den < c.plus * a.den + a.minus * c.den
  pub above : c.minus * a.den + a.minus * c.den < a.plus * c.den + c.plus * a.den

-- c ≤ |a|
abbrev pub Apart : Fraction → Fraction → Type 0
Apart a c = (c ⊑ a) ⊎ (c ⊑ neg a)
