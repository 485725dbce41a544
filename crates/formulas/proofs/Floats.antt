-- From words to floats.
use Rattle.std.proofs.Common.{ℕ, ◌^◌, ◌<◌, T, ◌≢◌, subst}
use lib.Ieee.{Float, binary32, of_bits, to_bits, fits}
use lib.Ieee.Bits.{of_bits-to_bits, to_bits-lt}
use Rattle.exact.specs.Fraction.{Fraction}
use Rattle.reducers.specs.Exact.{field}
use Rattle.formulas.specs.Distance.{Close, Distance, Near}

-- what holds at every finite word holds at every finite float
pub at-float : (P : Float → Type 0) → ((w : ℕ) → w < 2 ^ 32 → field w ≢ 255 → P (of_bits binary32 w)) → (x : Float) → T (fits binary32 x) → field (to_bits binary32 x) ≢ 255 → P x
at-float P d x fit h = subst P (of_bits-to_bits binary32 x fit) (d (to_bits binary32 x) (to_bits-lt binary32 x fit) h)

pub near-float : (f : Float → Float) (steps : Float → Fraction) (exact : Fraction → Fraction) → Distance f steps exact → (x : Float) → T (fits binary32 x) → Near x (f x) (exact (steps x))
near-float f steps exact d = at-float (λ z. Close (f z) (exact (steps z))) d
