-- Narrowing an f64 to an f32 on the patterns. Definitions only.
use Rattle.std.specs.Prelude.{ℕ, ◌+◌, ◌-◌, ◌*◌, ◌%◌, ◌^◌, cond, nat_le}
use Rattle.std.specs.Float.{binary32, binary64}
use Rattle.std.specs.Float.Ieee.{hid, top}
use Rattle.std.specs.Float.Ieee.Nearest.{closest}

-- from 2 ^ -126 on and below 2 ^ 128: the sign, and the rest with another bias, cut by 29 digits to the nearest, ties to even
unfoldable pub narrow_bits : ℕ → ℕ
narrow_bits b = cond (nat_le (top binary64) b) (top binary32) 0 + closest (b % top binary64 - 896 * hid binary64) (2 ^ 29)
