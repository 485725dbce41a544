-- Rounding a float to a whole number, halves away from zero, on its pattern. Definitions only.
use Rattle.std.specs.Prelude.{ℕ, suc, ◌+◌, ◌-◌, ◌*◌, ◌/◌, ◌%◌, ◌^◌, cond, nat_lt}
use Rattle.std.specs.Float.{Format}
use Rattle.std.specs.Float.Ieee.{emax, low, hid, top}

-- the exponent's field of a pattern
abbrev pub exponent_field : Format → ℕ → ℕ
exponent_field f b = b % top f / hid f

-- the sign's bit in its place
abbrev pub sign_bit : Format → ℕ → ℕ
sign_bit f b = b - b % top f

-- half of the unit u more, and what is below the unit cut off
abbrev pub cut_at : ℕ → ℕ → ℕ
cut_at b u = (b + u / 2) / u * u

-- below 1 / 2: zero; below 1: one; with digits after the point: cut at 1; else as it is
unfoldable pub round_bits : Format → ℕ → ℕ
round_bits f b =
    cond (nat_lt (exponent_field f b) (emax f - 1)) (sign_bit f b)
    (cond (nat_lt (exponent_field f b) (emax f)) (sign_bit f b + emax f * hid f)
    (cond (nat_lt (exponent_field f b) (suc (low f))) (cut_at b (2 ^ (suc (low f) - exponent_field f b)))
    b))
