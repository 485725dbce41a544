-- The tangent of half turns at every finite word.
use Rattle.std.proofs.Common.{◌≡◌, ℕ, ◌+◌, ◌-◌, ◌%◌, ◌^◌, ◌<◌, ◌≤◌, Bool, true, false, cond, T, leb, ◌⊎◌, ℤ, sym, refl, ◌∙◌, subst, inl, inr, arith, lit<}
use native.Mathlib.Decide.{dec_le}
use lib.Count.{count_trailing_zeros}
use lib.Ieee.{Float, binary32, binary64, of_bits, of_fields, odd, mul, eq, neg as negate}
use lib.Ieee.Bits.{of_bits-fits}
use lib.Ieee.Fits.{fits_widens}
use lib.Ieee.Scale.{finite}
use Rattle.std.specs.Float.{is_sign_negative}
use Rattle.exact.specs.Fraction.{Fraction, ◌≈◌, ◌⊑◌, ◌⊕◌, ◌⊗◌, neg, whole, frac, tiny, abs, Size, Within, leq, within_test}
use Rattle.exact.specs.Value.{value_of, Held}
use Rattle.exact.specs.Multiple.{Apart, Multiple}
use Rattle.exact.proofs.Order.{by-test, ≈-refl, ≈-sym, ≈-trans, ⊑_trans, ⊕-cong, ⊗-cong, ⊕-zero, zero-⊗, neg_cong, size-⊑, within-⊑, within-≈, within-by-test}
use Rattle.exact.proofs.Multiple.{pw-le}
use Rattle.exact.proofs.Rounding.{finite-neg, value-neg}
use Rattle.circle.specs.Series.{sin_series, cos_series}
use Rattle.circle.specs.Circle.{step, quarter, turns, nearest, exact_sine, exact_cosine, Alike}
use Rattle.circle.proofs.Mirror.{same-sine, same-cosine}
use Rattle.reducers.specs.Reduce.{reduce_pi}
use Rattle.reducers.specs.Exact.{field, mod_turn, PiReduced}
use Rattle.reducers.proofs.Radian.{word_of}
use Rattle.reducers.proofs.HalfTurns.{pi}
use Rattle.reducers.proofs.Reading.{pi-reduced-reads}
use Rattle.reducers.proofs.Turns.{mod_turn_lt}
use Rattle.formulas.specs.Words.{size_bits, fmla, zero64, zero_of}
use Rattle.formulas.specs.Radians.{infinite}
use Rattle.formulas.specs.HalfTurns.{pi as piBits, pi3_over3, tanpi_by, tanpi_at, tanpif}
use Rattle.formulas.specs.Tangent.{Tangential, IsHalf, AtHalf, OffHalf, HalfTurnTangent}
use Rattle.formulas.proofs.Ways.{tanpi_tiny, tanpi_table, tanpif-even, tanpif-rest, tangent_whole, tangent_half, tangent_quarter, tangent_quarters, tangent_other, tangent_between}
use Rattle.formulas.proofs.Under.{units_in, in_units, size-bits, held_word, finite-field}
use Rattle.formulas.proofs.Narrowed.{short}
use Rattle.formulas.proofs.Angles.{half_turns}
use Rattle.formulas.proofs.Quarters.{is_zero}
use Rattle.formulas.proofs.Wholes.{zero_is, zero-wholly, large-multiple}
use Rattle.formulas.proofs.HalfTurns.{sine-of, cosine-of, narrow-angle}
use Rattle.formulas.proofs.TangentNarrowed.{Before, room_for}
use Rattle.formulas.proofs.TangentNear.{terms-ratio}
use Rattle.formulas.proofs.TangentFar.{Ahead, moved}
use Rattle.formulas.proofs.TangentQuarter.{at-steps}
use Rattle.formulas.proofs.TangentRadians.{narrowed_tangential, plain_tangential, before-ratio, held-ratio, by-table}
use Rattle.formulas.proofs.TangentHalves.{half-steps, whole_not_half, at-half, not_zero, left-apart}

-- ---- the exact values at quarters
step_0 : Within (whole 0 ⊗ exact_cosine (whole 0)) (exact_sine (whole 0)) (tiny 60)
unfolding within_test exact_sine exact_cosine nearest turns quarter sin_series cos_series step
step_0 = within-by-test (whole 0 ⊗ exact_cosine (whole 0)) (exact_sine (whole 0)) (tiny 60) tt

step_32 : Within (whole 0 ⊗ exact_cosine (whole 32)) (exact_sine (whole 32)) (tiny 60)
unfolding within_test exact_sine exact_cosine nearest turns quarter sin_series cos_series step
step_32 = within-by-test (whole 0 ⊗ exact_cosine (whole 32)) (exact_sine (whole 32)) (tiny 60) tt

step_8 : Within (whole 1 ⊗ exact_cosine (whole 8)) (exact_sine (whole 8)) (tiny 60)
unfolding within_test exact_sine exact_cosine nearest turns quarter sin_series cos_series step
step_8 = within-by-test (whole 1 ⊗ exact_cosine (whole 8)) (exact_sine (whole 8)) (tiny 60) tt

step_40 : Within (whole 1 ⊗ exact_cosine (whole 40)) (exact_sine (whole 40)) (tiny 60)
unfolding within_test exact_sine exact_cosine nearest turns quarter sin_series cos_series step
step_40 = within-by-test (whole 1 ⊗ exact_cosine (whole 40)) (exact_sine (whole 40)) (tiny 60) tt

step_24 : Within (neg (whole 1) ⊗ exact_cosine (whole 24)) (exact_sine (whole 24)) (tiny 60)
unfolding within_test exact_sine exact_cosine nearest turns quarter sin_series cos_series step
step_24 = within-by-test (neg (whole 1) ⊗ exact_cosine (whole 24)) (exact_sine (whole 24)) (tiny 60) tt

step_56 : Within (neg (whole 1) ⊗ exact_cosine (whole 56)) (exact_sine (whole 56)) (tiny 60)
unfolding within_test exact_sine exact_cosine nearest turns quarter sin_series cos_series step
step_56 = within-by-test (neg (whole 1) ⊗ exact_cosine (whole 56)) (exact_sine (whole 56)) (tiny 60) tt

-- a float with a value
abbrev Worth : Float → Fraction → Type 0
Worth a v = T (finite a) × (value_of a ≈ v)

abbrev unit32 : Float
unit32 = of_bits binary32 0x3f800000

one-worth : Worth unit32 (whole 1)
unfolding of_bits of_fields odd count_trailing_zeros
one-worth = (tt, record { eq = refl })

minus-worth : (a : Float) (v : Fraction) → Worth a v → Worth (negate a) (neg v)
minus-worth a v h = (finite-neg a h.0, ≈-trans (value-neg a) (neg_cong h.1))

zero-worth : (x : Float) (t : Bool) → Worth (cond t (negate (zero_of x)) (zero_of x)) (whole 0)
zero-worth x true = let m = minus-worth (zero_of x) (whole 0) (zero_is (is_sign_negative x)) in (m.0, ≈-trans m.1 (record { eq = refl }))
zero-worth x false = zero_is (is_sign_negative x)

small-ahead : (a : Fraction) → tiny 60 ⊑ tiny 26 ⊕ abs a ⊗ tiny 37
unfolding leq
small-ahead a = ⊑_trans (by-test {a = tiny 60} {b = tiny 26} tt) (room_for (tiny 26) a 37)

-- the angle is i steps and nothing more
exactly : (a : Float) (i : ℕ) (v Y u : Fraction) → Worth a v → Within (v ⊗ exact_cosine (whole i)) (exact_sine (whole i)) (tiny 60) → Y ≈ whole 0 → Alike (whole i ⊕ Y) u (whole 1024 ⊗ tiny 60) → Tangential a u
exactly a i v Y u W w z A =
    let e : whole i ≈ whole i ⊕ Y = ≈-sym (≈-trans (⊕-cong (≈-refl (whole i)) z) (⊕-zero (whole i))) in
    let h : Ahead (value_of a) (whole i ⊕ Y) = within-⊑ (small-ahead (value_of a)) (within-≈ (⊗-cong (≈-sym W.1) (same-cosine (whole i) (whole i ⊕ Y) e)) (same-sine (whole i) (whole i ⊕ Y) e) w) in
    plain_tangential a u W.0 (moved (value_of a) (whole i ⊕ Y) u A h)

-- ---- the words where the ways part, and the errors
terms-word : in_units (units_in 113 5355286) ⊑ tiny 13
unfolding leq units_in
terms-word = by-test tt

terms-short : (tiny 50 ⊕ whole 0) ⊗ whole 1 ⊕ tiny 50 ⊑ tiny 25
unfolding leq
terms-short = by-test {a = (tiny 50 ⊕ whole 0) ⊗ whole 1 ⊕ tiny 50} {b = tiny 25} tt

short-enough : short ⊑ tiny 25
unfolding leq step
short-enough = by-test {a = short} {b = tiny 25} tt

equal? : (a b : ℕ) → Dec (a ≡ b)
equal? a b = elim (dec_le a b) [ yes h ↦ elim (dec_le b a) [ yes i ↦ yes (omega arith) | no i ↦ no (λ e. i (omega arith)) ] | no h ↦ no (λ e. h (omega arith)) ]

module _ (w : ℕ) (W : w < 2 ^ 32) (F : field w < 255) where
  abbrev x : Float
  x = of_bits binary32 w

  abbrev s : ℕ
  s = w % 2147483648

  abbrev u : Fraction
  u = whole 32 ⊗ value_of (of_bits binary32 w)

  abbrev y : Float
  y = (reduce_pi (of_bits binary32 w)).0

  abbrev k : ℤ
  k = (reduce_pi (of_bits binary32 w)).1

  abbrev j : ℕ
  j = mod_turn (reduce_pi (of_bits binary32 w)).1

  S : size_bits (of_bits binary32 w) ≡ w % 2147483648
  S = size-bits w W F

  -- from 2 ^ 24 on
  even : 0x4b800000 ≤ s → OffHalf x (tanpif x)
  even h =
      let l : s < infinite = omega arith in
      let M : Multiple (value_of x) (whole 1) = large-multiple w (omega arith) F in
      let g = zero-wholly x x M in
      let z = zero_is (is_sign_negative x) in
      let o : value_of (zero_of x) ≈ value_of (zero_of x) ⊗ exact_cosine u = ≈-trans z.1 (≈-sym (≈-trans (⊗-cong z.1 (≈-refl (exact_cosine u))) (zero-⊗ (exact_cosine u)))) in
      let b : Before (zero_of x) (exact_cosine u) (exact_sine u) = within-⊑ (⊑_trans short-enough (room_for (tiny 25) (value_of (zero_of x)) 36)) (within-≈ o (≈-refl (exact_sine u)) g.near) in
      subst (λ a. OffHalf x a) (sym (tanpif-even x (subst (λ n. 0x4b800000 ≤ n) (sym S) h) (subst (λ n. n < infinite) (sym S) l)))
      (record { apart = whole_not_half (value_of x) M; near = plain_tangential (zero_of x) u g.fin b })

  -- two terms
  terms : s < 0x38d1b717 → Tangential (tanpi_by x y j) u
  unfolding leq
  terms h =
      let H = held_word w 113 5355286 (tiny 13) F (lit< tt) (omega arith) terms-word in
      let b : Size (value_of x) (frac 1 16) = size-⊑ (by-test tt) H.size in
      let z = mul binary64 (fmla (mul binary64 x x) pi3_over3 piBits) x in
      let R = terms-ratio x H (narrow-angle (value_of x) b) in
      let e = (tiny 50 ⊕ whole 0) ⊗ whole 1 ⊕ tiny 50 in
      subst (λ a. Tangential a u) (sym (tanpi_tiny x y j (subst (λ n. n < 0x38d1b717) (sym S) h)))
      (narrowed_tangential z u (held-ratio z (half_turns (value_of x)) e R) (before-ratio z (half_turns (value_of x)) u e (cosine-of (value_of x) b) (sine-of (value_of x) b) R terms-short))

  module _ (R : PiReduced (of_bits binary32 w) (reduce_pi (of_bits binary32 w)).0 (reduce_pi (of_bits binary32 w)).1) where
    reads : Held y (frac 3 4) × Alike (whole j ⊕ value_of y) u (whole 1024 ⊗ tiny 60)
    reads = pi-reduced-reads x y k 1024 R

    by : (0x38d1b717 ≤ s → j % 32 ≡ 16 → Apart (value_of y) (tiny 115)) → Tangential (tanpi_by x y j) u
    by f =
        elim (dec_le 0x38d1b717 s) [
          | yes h ↦ subst (λ a. Tangential a u) (sym (tanpi_table x y j (subst (λ n. 0x38d1b717 ≤ n) (sym S) h))) (by-table y j u reads.0 (mod_turn_lt k) reads.1 (f h))
          | no h ↦ terms (omega arith)
        ]

    off : ((n : ℤ) → IsHalf x n → ⊥) → Tangential (tanpi_at x y j) u → AtHalf x (tanpi_at x y j) ⊎ OffHalf x (tanpi_at x y j)
    off n t = inr (record { apart = n; near = t })

    -- something is left
    inexact : eq y zero64 ≡ false → AtHalf x (tanpi_at x y j) ⊎ OffHalf x (tanpi_at x y j)
    inexact e =
        let N = not_zero y R.fin e in
        off (λ n h. N (half-steps (value_of x) (value_of y) R.small k n R.exact h).0)
        (subst (λ a. Tangential a u) (sym (tangent_other x y j e)) (by (λ h o. left-apart (value_of x) (value_of y) k (field w - 1) (omega arith) (word_of w F).grid R.exact N)))

    -- nothing is left
    module _ (e : eq (reduce_pi (of_bits binary32 w)).0 zero64 ≡ true) where
      Z : value_of y ≈ whole 0
      Z = is_zero y R.fin (subst T (sym e) tt)

      apart-at : (a : ℕ) → (a ≡ 16 → ⊥) → j % 32 ≡ a → (n : ℤ) → IsHalf x n → ⊥
      apart-at a o h n i = o (sym h ∙ (half-steps (value_of x) (value_of y) R.small k n R.exact i).1)

      at-whole : j % 32 ≡ 0 → Tangential (tanpi_at x y j) u
      at-whole h =
          subst (λ a. Tangential a u) (sym (tangent_whole x y j e h))
          (exactly (cond (leb 32 j) (negate (zero_of x)) (zero_of x)) j (whole 0) (value_of y) u (zero-worth x (leb 32 j)) (at-steps (λ i. Within (whole 0 ⊗ exact_cosine (whole i)) (exact_sine (whole i)) (tiny 60)) 0 j (mod_turn_lt k) h step_0 step_32) Z reads.1)

      at-quarter : j % 32 ≡ 8 → Tangential (tanpi_at x y j) u
      at-quarter h =
          subst (λ a. Tangential a u) (sym (tangent_quarter x y j e h))
          (exactly unit32 j (whole 1) (value_of y) u one-worth (at-steps (λ i. Within (whole 1 ⊗ exact_cosine (whole i)) (exact_sine (whole i)) (tiny 60)) 8 j (mod_turn_lt k) h step_8 step_40) Z reads.1)

      at-quarters : j % 32 ≡ 24 → Tangential (tanpi_at x y j) u
      at-quarters h =
          subst (λ a. Tangential a u) (sym (tangent_quarters x y j e h))
          (exactly (negate unit32) j (neg (whole 1)) (value_of y) u (minus-worth unit32 (whole 1) one-worth) (at-steps (λ i. Within (neg (whole 1) ⊗ exact_cosine (whole i)) (exact_sine (whole i)) (tiny 60)) 24 j (mod_turn_lt k) h step_24 step_56) Z reads.1)

      at-halves : j % 32 ≡ 16 → AtHalf x (tanpi_at x y j)
      at-halves h = subst (λ a. AtHalf x a) (sym (tangent_half x y j e h)) (at-half x k (value_of y) R.exact Z h)

      between : (j % 32 ≡ 0 → ⊥) → (j % 32 ≡ 16 → ⊥) → (j % 32 ≡ 8 → ⊥) → (j % 32 ≡ 24 → ⊥) → AtHalf x (tanpi_at x y j) ⊎ OffHalf x (tanpi_at x y j)
      between a b c d = off (apart-at (j % 32) b refl) (subst (λ z. Tangential z u) (sym (tangent_between x y j a b c d)) (by (λ h o. absurd (b o))))

      exact : AtHalf x (tanpi_at x y j) ⊎ OffHalf x (tanpi_at x y j)
      exact =
          elim (equal? (j % 32) 16) [
            | yes h ↦ inl (at-halves h)
            | no b ↦
                elim (equal? (j % 32) 0) [
                  | yes h ↦ off (apart-at 0 (λ i. omega arith) h) (at-whole h)
                  | no a ↦
                      elim (equal? (j % 32) 8) [
                        | yes h ↦ off (apart-at 8 (λ i. omega arith) h) (at-quarter h)
                        | no c ↦ elim (equal? (j % 32) 24) [ yes h ↦ off (apart-at 24 (λ i. omega arith) h) (at-quarters h) | no d ↦ between a b c d ]
                      ]
                ]
          ]

    either : AtHalf x (tanpi_at x y j) ⊎ OffHalf x (tanpi_at x y j)
    either = go (eq y zero64) refl
      where
        go : (t : Bool) → eq y zero64 ≡ t → AtHalf x (tanpi_at x y j) ⊎ OffHalf x (tanpi_at x y j)
        go true e = exact e
        go false e = inexact e

  reduced : s < 0x4b800000 → PiReduced (of_bits binary32 w) (reduce_pi (of_bits binary32 w)).0 (reduce_pi (of_bits binary32 w)).1
  reduced h =
      let D = word_of w F in
      pi x D.fin (fits_widens x (of_bits-fits binary32 w)) (size-⊑ (pw-le (field w - 1 + 24) 149 24 0 (omega arith)) D.size)

  below : s < 0x4b800000 → AtHalf x (tanpif x) ⊎ OffHalf x (tanpif x)
  below h = subst (λ a. AtHalf x a ⊎ OffHalf x a) (sym (tanpif-rest x (subst (λ n. n < 0x4b800000) (sym S) h))) (either (reduced h))

  tangent_word : AtHalf x (tanpif x) ⊎ OffHalf x (tanpif x)
  tangent_word = elim (dec_le 0x4b800000 s) [ yes h ↦ inr (even h) | no h ↦ below (omega arith) ]

pub half_turn_tangent : HalfTurnTangent
half_turn_tangent w W n = tangent_word w W (finite-field w n)
