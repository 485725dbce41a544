-- Whole steps keep the promise exactly.
use Rattle.std.specs.Prelude.{ℕ, ◌/◌, ◌%◌, refl}
use Rattle.std.proofs.Common.{arith}
use Rattle.std.specs.Int.Count.{count_trailing_zeros}
use Rattle.std.specs.Float.{binary64}
use Rattle.std.specs.Float.Ieee.{of_bits, of_fields, odd}
use Rattle.exact.specs.Fraction.{◌≈◌, ◌⊕◌, ◌⊗◌, whole, frac, size_test}
use Rattle.exact.specs.Value.{value_of, Held}
use Rattle.exact.proofs.Order.{≈-refl, ≈-trans, ⊕-cong, ⊕-zero, tiny-pos, size-by-test, within-refl, within-⊑}
use Rattle.circle.specs.Circle.{turns_on}
use Rattle.readers.specs.Meaning.{Keeps}
use Rattle.own_readers.specs.Own.{whole_steps, whole_answer}

zero_is : value_of (of_bits binary64 0) ≈ whole 0
unfolding of_bits of_fields odd count_trailing_zeros
zero_is = record { eq = refl }

zero_held : Held (of_bits binary64 0) (frac 3 4)
unfolding of_bits of_fields odd count_trailing_zeros size_test
zero_held = record { fin = tt; size = size-by-test (value_of (of_bits binary64 0)) (frac 3 4) tt }

turned : (w : ℕ) → turns_on (whole (w % 64)) (w / 64) ≈ turns_on (whole w) 0
turned w = record { eq = omega arith }

counted : (w : ℕ) → turns_on (whole (w % 64) ⊕ value_of (of_bits binary64 0)) (w / 64) ≈ turns_on (whole w) 0
counted w = ≈-trans (⊕-cong (≈-trans (⊕-cong (≈-refl (whole (w % 64))) zero_is) (⊕-zero (whole (w % 64)))) (≈-refl (whole 64 ⊗ whole (w / 64)))) (turned w)

pub whole-keeps : (w : ℕ) → Keeps (whole_steps w) (whole_answer w)
whole-keeps w = record { step = omega arith; rest = zero_held; near = record { more = w / 64; less = 0; near = within-⊑ (tiny-pos 50) (within-refl (counted w)) } }
