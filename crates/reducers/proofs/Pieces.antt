-- The constants: what each is, and their sums against 32 * 2 ^ 256 / big_pi, by computation.
use Rattle.std.proofs.Common.{ℕ, ◌+◌, ◌*◌, ◌^◌, refl, lit≤, pow_pos}
use lib.Count.{count_trailing_zeros}
use lib.Ieee.{of_bits, of_fields, odd, size}
use Rattle.exact.specs.Fraction.{Fraction, ◌⊕◌, ◌⊗◌, whole, Within, tiny, frac, size_test, within_test}
use Rattle.exact.specs.Value.{value_of}
use Rattle.exact.specs.Multiple.{pw, Multiple, OddMultiple}
use Rattle.exact.proofs.Order.{size-by-test, within-by-test}
use Rattle.circle.specs.Circle.{big_pi}
use Rattle.reducers.specs.Reduce.{part}
use Rattle.reducers.specs.Exact.{steps_per_radian, sum_parts, PartsAreRight}
use Rattle.reducers.proofs.Large.{Piece}

-- n / 2 ^ l
abbrev pub bits : ℕ → ℕ → Fraction
bits n l = record { plus = n; minus = 0; den = 2 ^ l; ok = pow_pos l }

pub piece0 : Piece (part 0) 24 (bits 170891319 24)
unfolding of_bits of_fields odd count_trailing_zeros size size_test
piece0 = record { fin = tt; grid = record { p = 170891319; m = 0; is = record { eq = refl } }; digits = size-by-test (value_of (part 0)) (pw 28 24) tt; room = lit≤ tt; size = size-by-test (value_of (part 0)) (bits 170891319 24) tt }

pub piece1 : Piece (part 1) 55 (bits 227401559 55)
unfolding of_bits of_fields odd count_trailing_zeros size size_test
piece1 = record { fin = tt; grid = record { p = 0; m = 227401559; is = record { eq = refl } }; digits = size-by-test (value_of (part 1)) (pw 28 55) tt; room = lit≤ tt; size = size-by-test (value_of (part 1)) (bits 227401559 55) tt }

pub piece2 : Piece (part 2) 81 (bits 20940011 81)
unfolding of_bits of_fields odd count_trailing_zeros size size_test
piece2 = record { fin = tt; grid = record { p = 20940011; m = 0; is = record { eq = refl } }; digits = size-by-test (value_of (part 2)) (pw 28 81) tt; room = lit≤ tt; size = size-by-test (value_of (part 2)) (bits 20940011 81) tt }

pub piece3 : Piece (part 3) 114 (bits 193114825 114)
unfolding of_bits of_fields odd count_trailing_zeros size size_test
piece3 = record { fin = tt; grid = record { p = 0; m = 193114825; is = record { eq = refl } }; digits = size-by-test (value_of (part 3)) (pw 28 114) tt; room = lit≤ tt; size = size-by-test (value_of (part 3)) (bits 193114825 114) tt }

pub piece4 : Piece (part 4) 143 (bits 235330325 143)
unfolding of_bits of_fields odd count_trailing_zeros size size_test
piece4 = record { fin = tt; grid = record { p = 235330325; m = 0; is = record { eq = refl } }; digits = size-by-test (value_of (part 4)) (pw 28 143) tt; room = lit≤ tt; size = size-by-test (value_of (part 4)) (bits 235330325 143) tt }

pub piece5 : Piece (part 5) 170 (bits 43626735 170)
unfolding of_bits of_fields odd count_trailing_zeros size size_test
piece5 = record { fin = tt; grid = record { p = 0; m = 43626735; is = record { eq = refl } }; digits = size-by-test (value_of (part 5)) (pw 28 170) tt; room = lit≤ tt; size = size-by-test (value_of (part 5)) (bits 43626735 170) tt }

pub piece6 : Piece (part 6) 200 (bits 117170203 200)
unfolding of_bits of_fields odd count_trailing_zeros size size_test
piece6 = record { fin = tt; grid = record { p = 0; m = 117170203; is = record { eq = refl } }; digits = size-by-test (value_of (part 6)) (pw 28 200) tt; room = lit≤ tt; size = size-by-test (value_of (part 6)) (bits 117170203 200) tt }

-- ---- what the constants that are used lack of 32 * 2 ^ 256 / big_pi
abbrev pub value : ℕ → Fraction
value i = value_of (part i)

abbrev pub first : ℕ → Fraction
first = sum_parts

pub tail-small : Within (whole 0 ⊕ (value 0 ⊕ value 1 ⊕ value 2)) steps_per_radian (tiny 86)
unfolding of_bits of_fields odd count_trailing_zeros size within_test
tail-small = within-by-test (whole 0 ⊕ (value 0 ⊕ value 1 ⊕ value 2)) steps_per_radian (tiny 86) tt

pub tail0 : Within (first 0 ⊕ (value 0 ⊕ value 1 ⊕ value 2 ⊕ value 3)) steps_per_radian (tiny 115)
unfolding of_bits of_fields odd count_trailing_zeros size within_test
tail0 = within-by-test (first 0 ⊕ (value 0 ⊕ value 1 ⊕ value 2 ⊕ value 3)) steps_per_radian (tiny 115) tt

pub tail1 : Within (first 1 ⊕ (value 1 ⊕ value 2 ⊕ value 3 ⊕ value 4)) steps_per_radian (tiny 144)
unfolding of_bits of_fields odd count_trailing_zeros size within_test
tail1 = within-by-test (first 1 ⊕ (value 1 ⊕ value 2 ⊕ value 3 ⊕ value 4)) steps_per_radian (tiny 144) tt

pub tail2 : Within (first 2 ⊕ (value 2 ⊕ value 3 ⊕ value 4 ⊕ value 5)) steps_per_radian (tiny 173)
unfolding of_bits of_fields odd count_trailing_zeros size within_test
tail2 = within-by-test (first 2 ⊕ (value 2 ⊕ value 3 ⊕ value 4 ⊕ value 5)) steps_per_radian (tiny 173) tt

pub tail3 : Within (first 3 ⊕ (value 3 ⊕ value 4 ⊕ value 5 ⊕ value 6)) steps_per_radian (tiny 203)
unfolding of_bits of_fields odd count_trailing_zeros size within_test
tail3 = within-by-test (first 3 ⊕ (value 3 ⊕ value 4 ⊕ value 5 ⊕ value 6)) steps_per_radian (tiny 203) tt

-- ---- the skipped ones are multiples of their last one's lowest bit
pub skip1 : Multiple (first 1) (pw 0 24)
unfolding of_bits of_fields odd count_trailing_zeros size
skip1 = record { p = 170891319; m = 0; is = record { eq = refl } }

pub skip2 : Multiple (first 2) (pw 0 55)
unfolding of_bits of_fields odd count_trailing_zeros size
skip2 = record { p = 170891319 * 2 ^ 31; m = 227401559; is = record { eq = refl } }

pub skip3 : Multiple (first 3) (pw 0 81)
unfolding of_bits of_fields odd count_trailing_zeros size
skip3 = record { p = 170891319 * 2 ^ 57 + 20940011; m = 227401559 * 2 ^ 26; is = record { eq = refl } }

-- the eight constants' sum
pub eight : PartsAreRight
unfolding of_bits of_fields odd count_trailing_zeros size within_test
eight = within-by-test (sum_parts 8 ⊗ frac big_pi (2 ^ 256)) (whole 32) (tiny 230) tt

-- ---- their lowest bits are set
pub odd2 : OddMultiple (value 2) (pw 0 81)
unfolding of_bits of_fields odd count_trailing_zeros size
odd2 = record { p = 20940011; m = 0; is = record { eq = refl }; half = 10470005; odd = refl }

pub odd3 : OddMultiple (value 3) (pw 0 114)
unfolding of_bits of_fields odd count_trailing_zeros size
odd3 = record { p = 0; m = 193114825; is = record { eq = refl }; half = 96557412; odd = refl }

pub odd4 : OddMultiple (value 4) (pw 0 143)
unfolding of_bits of_fields odd count_trailing_zeros size
odd4 = record { p = 235330325; m = 0; is = record { eq = refl }; half = 117665162; odd = refl }

pub odd5 : OddMultiple (value 5) (pw 0 170)
unfolding of_bits of_fields odd count_trailing_zeros size
odd5 = record { p = 0; m = 43626735; is = record { eq = refl }; half = 21813367; odd = refl }

pub odd6 : OddMultiple (value 6) (pw 0 200)
unfolding of_bits of_fields odd count_trailing_zeros size
odd6 = record { p = 0; m = 117170203; is = record { eq = refl }; half = 58585101; odd = refl }
