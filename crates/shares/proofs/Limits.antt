-- The limits of shares and needle.
use Rattle.std.proofs.Common.{◌≡◌, ℕ, ◌+◌, ◌%◌, ◌^◌, ◌<◌, ◌≤◌, T, Some, None, Ok, Err, mod-eq_of_lt, lit<, lit≤}
use lib.Count.{count_trailing_zeros}
use lib.Ieee.{Float, binary32, binary64, of_bits, of_fields, odd, mul, size}
use lib.Ieee.Scale.{finite}
use lib.Ieee.Fits.{mul-fits}
use Rattle.std.specs.Float.{round_to_format, float_round}
use Rattle.exact.specs.Fraction.{Fraction, ◌≈◌, ◌⊑◌, ◌⊕◌, ◌⊗◌, whole, frac, tiny, Size, Within, leq}
use Rattle.exact.specs.Value.{value_of, integer, Held, Good}
use Rattle.exact.specs.Rounded.{error_of}
use Rattle.exact.proofs.Order.{by-test, tiny-pos, whole-⊑, ⊗-mono_right, ≈-refl, ≈-sym, ⊑_refl, ⊑_trans, ⊕-mono, ⊗-mono, ⊗-comm, size-⊑, size-≈, size-⊗, size-near, triangle, within-⊑, within-≈, within-mul-right}
use Rattle.exact.proofs.Rounding.{rounded-near, mul-rounded}
use Rattle.exact.proofs.Narrow.{narrow32}
use Rattle.exact.proofs.Away.{away, cast-exact}
use Rattle.circle.specs.Circle.{step, exact_sine, exact_cosine, SteadyAlike}
use Rattle.circle.proofs.Circle.{step-nonneg}
use Rattle.circle.proofs.Turn.{one-step}
use Rattle.circle.proofs.Mirror.{alike-sine, alike-cosine, sine-at-most-one, cosine-at-most-one}
use Rattle.forms.specs.Meaning.{good-near}
use Rattle.forms.specs.Floats.{promise64, promise32}
use Rattle.table.proofs.Text.{sine-near, cosine-near}
use Rattle.readers.specs.Meaning.{Steps, Reading, Answers, Keeps}
use Rattle.shares.specs.Needle.{needle_of, Points}
use Rattle.table.specs.Sines.{sine64, cosine64}
use Rattle.shares.specs.Share.{sine32, cosine32, share_of, Read, ShareNear, NeedleNear}

-- ---- from k + y to u
-- what the reader's error costs
abbrev pub cost : Fraction
cost = (whole (2 ^ 20) ⊗ tiny 60) ⊗ frac 1 8 ⊕ tiny 70

nonneg-cost : whole 0 ⊑ whole (2 ^ 20) ⊗ tiny 60
unfolding leq
nonneg-cost = by-test tt

cost-le : (g : ℕ) → g ≤ 2 ^ 20 → (whole g ⊗ tiny 60) ⊗ step ⊕ tiny 70 ⊑ cost
cost-le g h =
    ⊕-mono (⊑_trans (⊗-mono step step-nonneg (⊗-mono (tiny 60) (tiny-pos 60) (whole-⊑ h))) (⊗-mono_right (whole (2 ^ 20) ⊗ tiny 60) nonneg-cost one-step)) (⊑_refl (tiny 70))

module _ (f : Fraction → Fraction) (steady : SteadyAlike f) (y : Float) (k : ℕ) (u : Fraction) (g : ℕ) (r : Read y k u g) where
  pub arrived : (v e : Fraction) → Within v (f (whole k ⊕ value_of y)) e → Within v (f u) (e ⊕ cost)
  arrived v e a =
      triangle a (within-⊑ (cost-le g r.small) (steady (whole k ⊕ value_of y) u (whole g ⊗ tiny 60) r.near))

  good-arrived : (x : Float) (e : Fraction) → Good x (f (whole k ⊕ value_of y)) e → Good x (f u) (e ⊕ cost)
  good-arrived x e a = record { fin = a.fin; near = arrived (value_of x) e a.near }

-- ---- the share
abbrev scale : Float
scale = of_bits binary64 0x41d0000000000000

scale-is : value_of scale ≈ whole (2 ^ 30)
unfolding of_bits of_fields odd count_trailing_zeros
scale-is = record { eq = mathlib.Core.Path.refl }

scale-finite : T (finite scale)
unfolding of_bits of_fields odd count_trailing_zeros
scale-finite = tt

-- x is within 2 ^ -41 of v, and v is at most 1
module _ (x : Float) (v : Fraction) (one : Size v (whole 1)) (g : Good x v (tiny 41)) where
  narrow : Good (round_to_format binary32 x) v (tiny 25 ⊕ tiny 41)
  unfolding leq
  narrow =
      let h : Held x (whole 1 ⊕ tiny 25) = record { fin = g.fin; size = size-⊑ (by-test tt) (size-near g.near one) } in
      let n = narrow32 x h in
      record { fin = n.fin; near = triangle n.near g.near }

  narrow_size : Size (value_of (round_to_format binary32 x)) (whole 2)
  unfolding leq
  narrow_size = size-⊑ (by-test tt) (size-near narrow.near one)

  times-scale : Good (mul binary64 (round_to_format binary32 x) scale) (v ⊗ whole (2 ^ 30)) (error_of binary64 (whole 2 ⊗ whole (2 ^ 30)) ⊕ (tiny 25 ⊕ tiny 41) ⊗ whole (2 ^ 30))
  unfolding size leq
  times-scale =
      let z = round_to_format binary32 x in
      let s : Size (value_of scale) (whole (2 ^ 30)) = size-≈ (≈-sym scale-is) (record { below = ⊑_refl (whole (2 ^ 30)); above = by-test tt }) in
      let r = rounded-near binary64 (mul binary64 z scale) (value_of z ⊗ value_of scale) (whole 2 ⊗ whole (2 ^ 30)) (mul-rounded binary64 z scale narrow.fin scale-finite) (size-⊗ narrow_size s) tt in
      let w : Within (value_of z ⊗ value_of scale) (v ⊗ value_of scale) ((tiny 25 ⊕ tiny 41) ⊗ whole (2 ^ 30)) = within-mul-right narrow.near s in
      record { fin = r.fin; near = within-≈ (≈-refl (value_of (mul binary64 z scale))) (Rattle.exact.proofs.Order.⊗-cong (≈-refl v) scale-is) (triangle r.near w) }

  pub share-within : Within (integer (share_of x)) (whole (2 ^ 30) ⊗ v) (whole 33)
  unfolding size leq
  share-within =
      let m = mul binary64 (round_to_format binary32 x) scale in
      let big : Size (v ⊗ whole (2 ^ 30)) (whole 1 ⊗ whole (2 ^ 30)) = size-⊗ one (record { below = ⊑_refl (whole (2 ^ 30)); above = by-test tt }) in
      let s : Size (value_of m) (whole (2 ^ 30 + 64)) = size-⊑ (by-test tt) (size-near times-scale.near big) in
      let w = away binary64 m times-scale.fin (mul-fits binary64 (round_to_format binary32 x) scale) in
      let n : Size (value_of (float_round binary64 m)) (whole (2 ^ 30 + 65)) = size-⊑ (by-test tt) (size-near w.near s) in
      let i : integer (share_of x) ≈ value_of (float_round binary64 m) = cast-exact 31 (2 ^ 30 + 65) (float_round binary64 m) w.fin w.integral n (lit< tt) in
      within-⊑ (by-test tt) (within-≈ (≈-sym i) (⊗-comm v (whole (2 ^ 30))) (triangle w.near times-scale.near))

ease-good : {x : Float} {v e d : Fraction} → e ⊑ d → Good x v e → Good x v d
ease-good h g = record { fin = g.fin; near = within-⊑ h g.near }

-- ---- shares and needle
module _ (y : Float) (k : ℕ) (l : k < 64) where
  pub share-sine : ShareNear exact_sine y k (share_of (sine64 y k))
  unfolding leq
  share-sine u g r =
      let a = good-near (sine64 y k) (exact_sine (whole k ⊕ value_of y)) (whole 11 ⊗ tiny 47 ⊕ tiny 44) (sine-near promise64 y r.rest k l) in
      share-within (sine64 y k) (exact_sine u) (sine-at-most-one u) (ease-good (by-test tt) (good-arrived exact_sine alike-sine y k u g r (sine64 y k) (whole 11 ⊗ tiny 47 ⊕ tiny 44) a))

  pub share-cosine : ShareNear exact_cosine y k (share_of (cosine64 y k))
  unfolding leq
  share-cosine u g r =
      let a = good-near (cosine64 y k) (exact_cosine (whole k ⊕ value_of y)) (whole 11 ⊗ tiny 47 ⊕ tiny 44) (cosine-near promise64 y r.rest k l) in
      share-within (cosine64 y k) (exact_cosine u) (cosine-at-most-one u) (ease-good (by-test tt) (good-arrived exact_cosine alike-cosine y k u g r (cosine64 y k) (whole 11 ⊗ tiny 47 ⊕ tiny 44) a))

  pub needle_sine : NeedleNear exact_sine y k (sine32 y k)
  unfolding leq
  needle_sine u g r =
      let a = good-near (sine32 y k) (exact_sine (whole k ⊕ value_of y)) (whole 11 ⊗ tiny 18 ⊕ tiny 44) (sine-near promise32 y r.rest k l) in
      ease-good (by-test tt) (good-arrived exact_sine alike-sine y k u g r (sine32 y k) (whole 11 ⊗ tiny 18 ⊕ tiny 44) a)

  pub needle_cosine : NeedleNear exact_cosine y k (cosine32 y k)
  unfolding leq
  needle_cosine u g r =
      let a = good-near (cosine32 y k) (exact_cosine (whole k ⊕ value_of y)) (whole 11 ⊗ tiny 18 ⊕ tiny 44) (cosine-near promise32 y r.rest k l) in
      ease-good (by-test tt) (good-arrived exact_cosine alike-cosine y k u g r (cosine32 y k) (whole 11 ⊗ tiny 18 ⊕ tiny 44) a)

-- what a reader that keeps its promise answers
pub answers-read : {u : Fraction} {k : ℕ} {y : Float} → Answers u k y → Read y k u 1024
unfolding leq
answers-read a = record { rest = a.rest; small = lit≤ tt; near = record { more = a.near.more; less = a.near.less; near = within-⊑ (by-test tt) a.near.near } }

pub points : (o : Steps) (a : Reading) → Keeps o a → Points o (needle_of a)
unfolding needle_of
points None (Ok a) k = k
points None (Err e) k = tt
points (Some u) (Err e) k = k
points (Some u) (Ok a) k =
    let m : a.0 % 64 ≡ a.0 = mod-eq_of_lt k.step in
    let r = answers-read k in
    rw m (needle_sine a.1 a.0 k.step u 1024 r, needle_cosine a.1 a.0 k.step u 1024 r)
