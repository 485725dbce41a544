-- What the patterns of floats tell: fields, signs, whole numbers. Definitions only.
use Rattle.std.specs.Prelude.{ℕ, ◌+◌, ◌*◌, ◌%◌, Bool, false, ℤ, pos, ◌-ℤ◌, ◌==◌, nat_le, to_bits, Float}
use Rattle.std.specs.Int.Count.{count_trailing_zeros}
use Rattle.std.specs.Float.{Format, nan, inf, fin, binary32}
use Rattle.std.specs.Float.Ieee.{emax, hid, up, down}
use Rattle.rounding.specs.Round.{exponent_field}

-- the exponent's field
abbrev pub field_of : Format → Float → ℕ
field_of f x = exponent_field f (to_bits f x)

-- the exponent that the field stands for
abbrev pub exponent_of : Format → Float → ℤ
exponent_of f x = pos (field_of f x) -ℤ pos (emax f)

-- the digits below the leading one
abbrev pub mantissa_of : Format → Float → ℕ
mantissa_of f x = to_bits f x % hid f

-- the exponent's field and the zeros that end the significand, 150 of a float with the last digit 1
abbrev pub last_place : Float → ℕ
last_place x = field_of binary32 x + count_trailing_zeros 32 (hid binary32 + mantissa_of binary32 x)

-- no digit after the point; zero does not count
abbrev pub whole_bits : Float → Bool
whole_bits x = nat_le 150 (last_place x)

-- the last digit is the one of 1
abbrev pub odd_bits : Float → Bool
odd_bits x = last_place x == 150

-- the value is a whole number
abbrev pub is_whole : Float → Bool
is_whole nan = false
is_whole (inf s) = false
is_whole (fin s m e) = m * up e % down e == 0

-- the value is an odd whole number
abbrev pub is_odd : Float → Bool
is_odd nan = false
is_odd (inf s) = false
is_odd (fin s m e) = m * up e % (2 * down e) == down e
