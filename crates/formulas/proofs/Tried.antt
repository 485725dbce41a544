-- Some values, each by computation.
use Rattle.std.proofs.Common.{◌≡◌, refl}
use lib.Count.{count_trailing_zeros}
use lib.Ieee.{binary64, of_bits, of_fields, odd, to_bits, size, round, add, sub, mul, neg, eq, to_signed}
use Rattle.std.specs.Float.{float_round, round_with, round_to_format, is_sign_negative, float_with_sign}
use Rattle.reducers.specs.Reduce.{reduce_pi, reduce_quarter}
use Rattle.formulas.specs.Words.{on_word}
use Rattle.formulas.specs.Radians.{sinf, cos_of, cosf}
use Rattle.formulas.specs.HalfTurns.{cospi_y, sinpif, cospi_of, cospif, tanpi_at, tanpif}
use Rattle.formulas.specs.Tried.{Tried}

sinf_minus_zero : on_word sinf 0x80000000 ≡ 0x80000000
unfolding sinf of_bits of_fields odd count_trailing_zeros to_bits size round add sub mul neg eq to_signed round_with round_to_format is_sign_negative float_with_sign
sinf_minus_zero = refl

sinf_infinity : on_word sinf 0x7f800000 ≡ 0x7fc00000
unfolding sinf of_bits of_fields odd count_trailing_zeros to_bits size round add sub mul neg eq to_signed round_with round_to_format is_sign_negative float_with_sign
sinf_infinity = refl

cosf_zero : on_word cosf 0 ≡ 0x3f800000
unfolding cos_of of_bits of_fields odd count_trailing_zeros to_bits size round add sub mul neg eq to_signed round_with round_to_format is_sign_negative float_with_sign
cosf_zero = refl

sinpif_half : on_word sinpif 0x3f000000 ≡ 0x3f800000
unfolding sinpif reduce_quarter cospi_y of_bits of_fields odd count_trailing_zeros to_bits size round add sub mul neg eq to_signed round_with round_to_format is_sign_negative float_with_sign
sinpif_half = refl

sinpif_minus_two : on_word sinpif 0xc0000000 ≡ 0x80000000
unfolding sinpif of_bits of_fields odd count_trailing_zeros to_bits size round add sub mul neg eq to_signed round_with round_to_format is_sign_negative float_with_sign
sinpif_minus_two = refl

cospif_half : on_word cospif 0x3f000000 ≡ 0
unfolding cospi_of reduce_quarter of_bits of_fields odd count_trailing_zeros to_bits size round add sub mul neg eq to_signed round_with round_to_format is_sign_negative float_with_sign
cospif_half = refl

cospif_odd : on_word cospif 0x4b000001 ≡ 0xbf800000
unfolding cospi_of of_bits of_fields odd count_trailing_zeros to_bits size round add sub mul neg eq to_signed round_with round_to_format is_sign_negative float_with_sign
cospif_odd = refl

tanpif_three_halves : on_word tanpif 0x3fc00000 ≡ 0xff800000
unfolding tanpif tanpi_at reduce_pi of_bits of_fields odd count_trailing_zeros to_bits size round add sub mul neg eq to_signed round_with round_to_format is_sign_negative float_with_sign
tanpif_three_halves = refl

tanpif_one : on_word tanpif 0x3f800000 ≡ 0x80000000
unfolding tanpif tanpi_at reduce_pi of_bits of_fields odd count_trailing_zeros to_bits size round add sub mul neg eq to_signed round_with round_to_format is_sign_negative float_with_sign
tanpif_one = refl

tanpif_three_quarters : on_word tanpif 0x3f400000 ≡ 0xbf800000
unfolding tanpif tanpi_at reduce_pi of_bits of_fields odd count_trailing_zeros to_bits size round add sub mul neg eq to_signed round_with round_to_format is_sign_negative float_with_sign
tanpif_three_quarters = refl

round_below_half : to_bits binary64 (float_round binary64 (of_bits binary64 0x3fdfffffffffffff)) ≡ 0
unfolding of_bits of_fields odd count_trailing_zeros to_bits size round add sub mul neg eq to_signed round_with round_to_format is_sign_negative float_with_sign
round_below_half = refl

pub tried : Tried
tried = record {
  sinf_minus_zero = sinf_minus_zero;
  sinf_infinity = sinf_infinity;
  cosf_zero = cosf_zero;
  sinpif_half = sinpif_half;
  sinpif_minus_two = sinpif_minus_two;
  cospif_half = cospif_half;
  cospif_odd = cospif_odd;
  tanpif_three_halves = tanpif_three_halves;
  tanpif_one = tanpif_one;
  tanpif_three_quarters = tanpif_three_quarters;
  round_below_half = round_below_half;
}
