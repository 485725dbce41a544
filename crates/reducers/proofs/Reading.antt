-- The reducers' answers as the step within a turn and the rest: what a reader of angles wants.
use Rattle.std.proofs.Common.{ℕ, ◌+◌, ◌-◌, ◌%◌, ◌<◌, ◌≤◌, ◌≢◌, ℤ, pos, refl, arith}
use lib.Count.{count_trailing_zeros}
use lib.Ieee.{Float, binary32, binary64, of_bits, of_fields, odd}
use lib.Ieee.Bits.{of_bits-fits}
use lib.Ieee.Fits.{fits_widens}
use Rattle.exact.specs.Fraction.{Fraction, ◌≈◌, ◌⊑◌, ◌⊕◌, ◌⊗◌, whole, frac, tiny, Size, leq, size_test}
use Rattle.exact.specs.Value.{value_of, integer, Held}
use Rattle.exact.specs.Multiple.{pw}
use Rattle.exact.proofs.Order.{by-test, ≈-refl, ≈-trans, ⊕-cong, ⊕-zero, zero-⊕, zero-⊗, ⊗-nonneg, whole-⊑, tiny-pos, size-⊑, size-by-test, within-⊑, within-refl}
use Rattle.exact.proofs.Multiple.{smaller-size, pw-le}
use Rattle.circle.specs.Circle.{Alike}
use Rattle.reducers.specs.Reduce.{reduce, reduce_pi}
use Rattle.reducers.specs.Exact.{field, radian_steps, mod_turn, Reduced, PiReduced}
use Rattle.reducers.proofs.HalfTurns.{pi}
use Rattle.reducers.proofs.Radian.{radian, word_of, whole-turns}
use Rattle.reducers.proofs.Turns.{turns-alike, mod_turn_alike}

-- ---- radians
enough : tiny 52 ⊑ whole 1024 ⊗ tiny 60
unfolding leq
enough = by-test tt

pub reduced-reads : (w : ℕ) (y : Float) (k : ℤ) → Reduced w y k → Held y (frac 3 4) × Alike (whole (mod_turn k) ⊕ value_of y) (radian_steps (of_bits binary32 w)) (whole 1024 ⊗ tiny 60)
reduced-reads w y k R = (record { fin = R.fin; size = smaller-size (value_of y) (frac 3 4) R.small }, mod_turn_alike k (value_of y) (radian_steps (of_bits binary32 w)) R.turns (whole 1024 ⊗ tiny 60) (within-⊑ enough R.near))

-- every finite word
pub radian-reads : (w : ℕ) → field w ≢ 255 →
    Held (reduce (of_bits binary32 w) (w % 2147483648)).0 (frac 3 4)
    × Alike (whole (mod_turn (reduce (of_bits binary32 w) (w % 2147483648)).1) ⊕ value_of (reduce (of_bits binary32 w) (w % 2147483648)).0) (radian_steps (of_bits binary32 w)) (whole 1024 ⊗ tiny 60)
radian-reads w h = reduced-reads w (reduce (of_bits binary32 w) (w % 2147483648)).0 (reduce (of_bits binary32 w) (w % 2147483648)).1 (radian w h)

-- ---- half turns
unhurt : (g : ℕ) → whole 0 ⊑ whole g ⊗ tiny 60
unhurt g = ⊗-nonneg (whole-⊑ (omega arith)) (tiny-pos 60)

no-turn : (a : Fraction) → a ⊕ integer (pos 0) ⊗ whole 64 ≈ a
no-turn a = ≈-trans (⊕-cong (≈-refl a) (zero-⊗ (whole 64))) (⊕-zero a)

pub pi-reduced-reads : (x y : Float) (k : ℤ) (g : ℕ) → PiReduced x y k → Held y (frac 3 4) × Alike (whole (mod_turn k) ⊕ value_of y) (whole 32 ⊗ value_of x) (whole g ⊗ tiny 60)
unfolding leq
pi-reduced-reads x y k g R = (record { fin = R.fin; size = size-⊑ (by-test tt) R.small }, mod_turn_alike k (value_of y) (whole 32 ⊗ value_of x) (pos 0) (whole g ⊗ tiny 60) (within-⊑ (unhurt g) (within-refl (≈-trans (no-turn (integer k ⊕ value_of y)) R.exact))))

-- below 2 ^ 24
pub half-turns-read : (w g : ℕ) → field w ≢ 255 → w % 2147483648 < 1266679808 →
    Held (reduce_pi (of_bits binary32 w)).0 (frac 3 4)
    × Alike (whole (mod_turn (reduce_pi (of_bits binary32 w)).1) ⊕ value_of (reduce_pi (of_bits binary32 w)).0) (whole 32 ⊗ value_of (of_bits binary32 w)) (whole g ⊗ tiny 60)
half-turns-read w g h l =
    let x = of_bits binary32 w in
    let F : field w < 255 = omega arith in
    let W = word_of w F in
    let S : Size (value_of x) (pw 24 0) = size-⊑ (pw-le (field w - 1 + 24) 149 24 0 (omega arith)) W.size in
    pi-reduced-reads x (reduce_pi x).0 (reduce_pi x).1 g (pi x W.fin (fits_widens x (of_bits-fits binary32 w)) S)

-- from 2 ^ 24 on: a whole number of turns
zero_is : value_of (of_bits binary64 0) ≈ whole 0
unfolding of_bits of_fields odd count_trailing_zeros
zero_is = record { eq = refl }

zero_held : Held (of_bits binary64 0) (frac 3 4)
unfolding of_bits of_fields odd count_trailing_zeros size_test
zero_held = record { fin = tt; size = size-by-test (value_of (of_bits binary64 0)) (frac 3 4) tt }

pub whole-turns-read : (w g : ℕ) → field w ≢ 255 → 1266679808 ≤ w % 2147483648 →
    Held (of_bits binary64 0) (frac 3 4)
    × Alike (whole 0 ⊕ value_of (of_bits binary64 0)) (whole 32 ⊗ value_of (of_bits binary32 w)) (whole g ⊗ tiny 60)
whole-turns-read w g h l =
    let u = whole 32 ⊗ value_of (of_bits binary32 w) in
    let v = whole 0 ⊕ value_of (of_bits binary64 0) in
    let e : v ⊕ u ≈ u = ≈-trans (⊕-cong (≈-trans (zero-⊕ (value_of (of_bits binary64 0))) zero_is) (≈-refl u)) (zero-⊕ u) in
    (zero_held, turns-alike v u (whole g ⊗ tiny 60) u (whole-turns w (omega arith) (omega arith)) (within-⊑ (unhurt g) (within-refl e)))
