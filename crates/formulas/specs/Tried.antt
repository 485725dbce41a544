-- Some values, by words. Definitions only.
use Rattle.std.specs.Prelude.{◌≡◌, from_bits, to_bits}
use Rattle.std.specs.Float.{float_round, binary64}
use Rattle.formulas.specs.Words.{on_word}
use Rattle.formulas.specs.Radians.{sinf, cosf}
use Rattle.formulas.specs.HalfTurns.{sinpif, cospif, tanpif}

-- zeros, one, a NaN for an infinity, whole numbers, halves and quarters; and rounding just below one half
pub record Tried : Type 0 where
  pub sinf_minus_zero : on_word sinf 0x80000000 ≡ 0x80000000
  pub sinf_infinity : on_word sinf 0x7f800000 ≡ 0x7fc00000
  pub cosf_zero : on_word cosf 0 ≡ 0x3f800000
  pub sinpif_half : on_word sinpif 0x3f000000 ≡ 0x3f800000
  pub sinpif_minus_two : on_word sinpif 0xc0000000 ≡ 0x80000000
  pub cospif_half : on_word cospif 0x3f000000 ≡ 0
  pub cospif_odd : on_word cospif 0x4b000001 ≡ 0xbf800000
  pub tanpif_three_halves : on_word tanpif 0x3fc00000 ≡ 0xff800000
  pub tanpif_one : on_word tanpif 0x3f800000 ≡ 0x80000000
  pub tanpif_three_quarters : on_word tanpif 0x3f400000 ≡ 0xbf800000
  pub round_below_half : to_bits binary64 (float_round binary64 (from_bits binary64 0x3fdfffffffffffff)) ≡ 0
