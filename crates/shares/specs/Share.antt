-- Shares and the needle, over the table text. Definitions only.
use Rattle.std.specs.Prelude.{ℕ, ◌%◌, ◌^◌, ◌≤◌, ℤ, from_bits, Float}
use Rattle.std.specs.Float.Ieee.{add, mul, to_signed}
use Rattle.std.specs.Float.{round_to_format, float_round, binary32, binary64}
use Rattle.exact.specs.Fraction.{Fraction, ◌⊕◌, ◌⊗◌, whole, frac, tiny, Within}
use Rattle.exact.specs.Value.{value_of, integer, Held, Good}
use Rattle.circle.specs.Circle.{Alike}
use Rattle.table.specs.Sines.{sine_of, cosine_of, sine64, cosine64}

-- the sine by the table text in the f32 form
abbrev pub sine32 : Float → ℕ → Float
sine32 y k = sine_of (λ a b c. add binary32 (mul binary32 a b) c) (mul binary32) (round_to_format binary32) y k

-- the cosine in f32
abbrev pub cosine32 : Float → ℕ → Float
cosine32 y k = cosine_of (λ a b c. add binary32 (mul binary32 a b) c) (mul binary32) (round_to_format binary32) y k

-- narrowed to an f32, times 2 ^ 30, to the nearest whole number, halves away from zero
abbrev pub share_of : Float → ℤ
share_of x = to_signed 31 (float_round binary64 (mul binary64 (round_to_format binary32 x) (from_bits binary64 0x41d0000000000000)))

-- the sine share and the cosine share of k + y steps
unfoldable pub sine_share : ℕ → Float → ℤ
sine_share k y = share_of (sine64 y (k % 64))

-- the cosine share
unfoldable pub cosine_share : ℕ → Float → ℤ
cosine_share k y = share_of (cosine64 y (k % 64))

-- k + y steps are those of u within g / 2 ^ 60, whole turns aside, for a g of at most 2 ^ 20; |y| ≤ 3 / 4
pub record Read (y : Float) (k : ℕ) (u : Fraction) (g : ℕ) : Type 0 where
  pub rest : Held y (frac 3 4)
  pub small : g ≤ 2 ^ 20
  pub near : Alike (whole k ⊕ value_of y) u (whole g ⊗ tiny 60)

-- then the share s is within 33 of 2 ^ 30 times the exact f of u
abbrev pub ShareNear : (Fraction → Fraction) → Float → ℕ → ℤ → Type 0
ShareNear f y k s = (u : Fraction) (g : ℕ) → Read y k u g → Within (integer s) (whole (2 ^ 30) ⊗ f u) (whole 33)

-- and the needle's part x is finite and within 2 ^ -10 of it
abbrev pub NeedleNear : (Fraction → Fraction) → Float → ℕ → Float → Type 0
NeedleNear f y k x = (u : Fraction) (g : ℕ) → Read y k u g → Good x (f u) (tiny 10)
