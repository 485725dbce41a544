-- What the words of the editions mean, and what their readers answer. Definitions only.
use Rattle.std.specs.Prelude.{ℕ, ◌%◌, cond, ℤ, Some, None, Ok, Err, ◌==◌, from_bits, nat_lt, Float}
use Rattle.std.specs.Float.{binary32, binary64}
use Rattle.exact.specs.Fraction.{◌⊗◌, whole}
use Rattle.exact.specs.Value.{value_of}
use Rattle.reducers.specs.Reduce.{reduce, reduce_pi}
use Rattle.reducers.specs.Exact.{field, radian_steps, mod_turn}
use Rattle.readers.specs.declared.reader.ReaderFault.TheVariants.{NoAngle}
use Rattle.readers.specs.Meaning.{Steps, Reading}

-- a reducer's pair (y, k) as a reader's answer: k modulo 64, then y
abbrev pub turned : Float × ℤ → Reading
turned a = Ok (mod_turn a.1, a.0)

-- edition 5, radians: no angle at exponent field 255, else 32 x 2 ^ 256 / Π steps
abbrev pub radian_meaning : ℕ → Steps
radian_meaning w = cond (field w == 255) None (Some (radian_steps (from_bits binary32 w)))

-- its reader: the radian reducer's pair
abbrev pub radian_answer : ℕ → Reading
radian_answer w = cond (field w == 255) (Err NoAngle) (turned (reduce (from_bits binary32 w) (w % 2147483648)))

-- edition 6, half turns: no angle at exponent field 255, else 32 x steps
abbrev pub half_turn_meaning : ℕ → Steps
half_turn_meaning w = cond (field w == 255) None (Some (whole 32 ⊗ value_of (from_bits binary32 w)))

-- its reader: the half-turn reducer's pair below 2 ^ 24; from there on x is even, so k = 0 and y = 0
abbrev pub half_turn_answer : ℕ → Reading
half_turn_answer w =
    cond (field w == 255) (Err NoAngle)
    (cond (nat_lt (w % 2147483648) 1266679808) (turned (reduce_pi (from_bits binary32 w))) (Ok (0, from_bits binary64 0)))
