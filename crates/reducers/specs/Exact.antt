-- What the reducers are to answer. Definitions only.
use Rattle.std.specs.Prelude.{◌≡◌, ℕ, zero, suc, ◌-◌, ◌/◌, ◌%◌, ◌^◌, ◌<◌, T, ℤ, pos, negsuc, ◌≢◌, from_bits, slice_index_or, unsigned_abs, Float}
use Rattle.std.specs.Float.{binary32}
use Rattle.std.specs.Float.Ieee.{minus}
use Rattle.std.specs.Float.Ieee.Scale.{finite}
use Rattle.exact.specs.Fraction.{Fraction, ◌≈◌, ◌⊕◌, ◌⊗◌, ◌⊖◌, whole, frac, tiny, Size, Within}
use Rattle.exact.specs.Value.{value_of, integer}
use Rattle.exact.specs.Multiple.{Multiple, OddMultiple, Smaller, Apart}
use Rattle.exact.specs.Rounded.{two}
use Rattle.circle.specs.Circle.{big_pi}
use Rattle.reducers.specs.Reduce.{part, lowest, leading, skips, exponent_of}

-- how many steps a radian is, 64 steps to a turn
abbrev pub steps_per_radian : Fraction
steps_per_radian = frac (2 ^ 261) big_pi

-- the exact steps of a float that stands for radians
abbrev pub radian_steps : Float → Fraction
radian_steps x = value_of x ⊗ steps_per_radian

-- the sum of the first i parts of 32/π
abbrev pub sum_parts : ℕ → Fraction
sum_parts zero = whole 0
sum_parts (suc i) = sum_parts i ⊕ value_of (part i)

-- all eight, times π, are within 2 ^ -230 of 32
abbrev pub PartsAreRight : Type 0
PartsAreRight = Within (sum_parts 8 ⊗ frac big_pi (2 ^ 256)) (whole 32) (tiny 230)

-- the exponent's field of a 32-bit word
abbrev pub field : ℕ → ℕ
field w = w % 2147483648 / 8388608

-- each of the first seven parts is an odd number times its lowest bit
abbrev pub LowestBits : Type 0
LowestBits = (i : ℕ) → i < 7 → OddMultiple (value_of (part i)) (two (slice_index_or lowest i (pos 0)))

-- a finite float is a multiple of its lowest bit: 2 ^ (e - 23) for the exponent e, and 2 ^ -149 for a field of 0
abbrev pub LowestDigits : Type 0
LowestDigits = (w : ℕ) → (field w ≢ 255) → Multiple (value_of (from_bits binary32 w)) (two (minus (field w - 1) 149))

-- the product of a finite float and a part that is skipped for its exponent is a number of whole turns
abbrev pub SkippedAreWholeTurns : Type 0
SkippedAreWholeTurns =
    (w i : ℕ) → (field w ≢ 255) → i < skips leading (exponent_of (w % 2147483648)) →
    Multiple (value_of (from_bits binary32 w) ⊗ value_of (part i)) (whole 64)

-- k modulo 64
abbrev pub mod_turn : ℤ → ℕ
mod_turn (pos n) = n % 64
mod_turn (negsuc n) = 63 - n % 64

-- y and k answer the word w: but for whole turns k + y is within 2 ^ -52 of its exact steps, and y is zero for zero alone
pub record Reduced (w : ℕ) (y : Float) (k : ℤ) : Type 0 where
  pub fin : T (finite y)
  pub small : Smaller (value_of y) (frac 3 4)
  pub few : unsigned_abs k < 2 ^ 57
  pub turns : ℤ
  pub near : Within ((integer k ⊕ value_of y) ⊕ integer turns ⊗ whole 64) (radian_steps (from_bits binary32 w)) (tiny 52)
  pub nonzero : (value_of (from_bits binary32 w) ≈ whole 0 → ⊥) → value_of y ≈ whole 0 → ⊥
  -- where k is an odd number of quarter turns
  pub apart : unsigned_abs k % 32 ≡ 16 → Apart (value_of y) (tiny 115)

-- half turns: k + y is 32 x, and |y| ≤ 1 / 2
pub record PiReduced (x y : Float) (k : ℤ) : Type 0 where
  pub fin : T (finite y)
  pub small : Size (value_of y) (frac 1 2)
  pub exact : integer k ⊕ value_of y ≈ whole 32 ⊗ value_of x

-- quarter turns: y is x - k / 2, and |y| ≤ 1 / 4
pub record QuarterReduced (x y : Float) (k : ℤ) : Type 0 where
  pub fin : T (finite y)
  pub small : Size (value_of y) (frac 1 4)
  pub exact : value_of y ≈ value_of x ⊖ integer k ⊗ frac 1 2
