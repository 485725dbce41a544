-- Words, and the operations that the six functions share. Definitions only.
use Rattle.std.specs.Prelude.{ℕ, ◌%◌, ◌^◌, ℤ, from_bits, to_bits, Float}
use Rattle.std.specs.Float.Ieee.{add, mul}
use Rattle.std.specs.Float.{round_to_format, is_sign_negative, float_with_sign, binary32, binary64}
use Rattle.reducers.specs.Exact.{mod_turn}
use Rattle.table.specs.Sines.{sine64, cosine64}
use Rattle.table.specs.Tangents.{tangent64}

-- the word of x without its sign
abbrev pub size_bits : Float → ℕ
size_bits x = to_bits binary32 x % 2 ^ 31

-- f on words
abbrev pub on_word : (Float → Float) → ℕ → ℕ
on_word f w = to_bits binary32 (f (from_bits binary32 w))

-- a b + c in f64, each rounded once
abbrev pub fmla : Float → Float → Float → Float
fmla a b c = add binary64 (mul binary64 a b) c

-- the nearest f32
abbrev pub narrowed : Float → Float
narrowed = round_to_format binary32

-- 1
abbrev pub one : Float
one = from_bits binary64 0x3ff0000000000000

-- 0
abbrev pub zero64 : Float
zero64 = from_bits binary64 0

-- -2 ^ -25
abbrev pub minus_tiny : Float
minus_tiny = from_bits binary64 0xbe60000000000000

-- zero with the sign of x
abbrev pub zero_of : Float → Float
zero_of x = float_with_sign (is_sign_negative x) (from_bits binary32 0)

-- the sine of a reduced angle, its rest y and its steps k
abbrev pub sine_at : Float × ℤ → Float
sine_at r = sine64 r.0 (mod_turn r.1)

-- the cosine
abbrev pub cosine_at : Float × ℤ → Float
cosine_at r = cosine64 r.0 (mod_turn r.1)

-- the tangent
abbrev pub tangent_at : Float × ℤ → Float
tangent_at r = tangent64 r.0 (mod_turn r.1)
