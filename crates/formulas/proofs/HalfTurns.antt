-- The sine and the cosine of half turns at every finite word.
use Rattle.std.proofs.Common.{◌≡◌, ℕ, ◌+◌, ◌-◌, ◌%◌, ◌^◌, ◌<◌, ◌≤◌, Bool, true, false, cond, ◌||◌, leb, ◌⊎◌, sym, refl, ap, ◌∙◌, subst, inl, inr, arith, lit<}
use native.Mathlib.Decide.{dec_le}
use lib.Ieee.{Float, binary32, binary64, of_bits, mul}
use lib.Ieee.Bits.{of_bits-fits}
use lib.Ieee.Fits.{fits_widens}
use Rattle.exact.specs.Fraction.{Fraction, ◌≈◌, ◌⊑◌, ◌⊗◌, neg, whole, frac, tiny, Size, leq, size_test}
use Rattle.exact.specs.Value.{value_of, Good, Held}
use Rattle.exact.specs.Multiple.{Multiple}
use Rattle.exact.proofs.Order.{by-test, ≈-refl, ≈-sym, ≈-trans, ⊗-cong, ⊗-comm, neg-⊗, neg_cong, size-⊑, size-≈, size-⊗, size-by-test}
use Rattle.exact.proofs.Multiple.{pw-le}
use Rattle.circle.specs.Series.{sin_series, cos_series}
use Rattle.circle.specs.Circle.{exact_sine, exact_cosine}
use Rattle.circle.proofs.Circle.{angle}
use Rattle.circle.proofs.Steady.{sin_one, cos_one, sin_cong, cos_cong}
use Rattle.circle.proofs.Mirror.{sine-at-most-one, cosine-at-most-one}
use Rattle.rounding.specs.Bits.{whole_bits, odd_bits, is_whole, is_odd}
use Rattle.rounding.proofs.Wholes.{whole-means, odd-means}
use Rattle.reducers.specs.Reduce.{reduce_quarter}
use Rattle.reducers.specs.Exact.{field, QuarterReduced}
use Rattle.reducers.proofs.Radian.{word_of}
use Rattle.reducers.proofs.HalfTurns.{quarter}
use Rattle.formulas.specs.Words.{size_bits, fmla, narrowed, one, minus_tiny, zero_of}
use Rattle.formulas.specs.Radians.{infinite}
use Rattle.formulas.specs.HalfTurns.{pi, minus_pi3_over6, sinpi_near, cospi_near, sine_by, cosine_by, by_quarter, sinpif, cospi_of}
use Rattle.formulas.specs.Distance.{half_turn_steps, Close, HalfTurnSine, HalfTurnCosine}
use Rattle.formulas.proofs.Ways.{sinpif-zero, sinpif-tiny, sinpif-near, sinpif-rest, cospif-line, cospif-near, cospif-rest, unit, large-whole, digits-whole, not_whole}
use Rattle.formulas.proofs.Under.{units_in, in_units, value-word, size-bits, held_word, field-same, mirrored, zero_word, finite-field}
use Rattle.formulas.proofs.Narrowed.{short, Closer, closer-close, closer-moved, closer-≈, closer-own, narrowed-closer}
use Rattle.formulas.proofs.Angles.{half_turns, half-angle, sine-near-zero, cosine-near-zero, cosine-mirrored}
use Rattle.formulas.proofs.Near.{half-sine-near, half-cosine-near, half-tiny-near, half-zero-near, below_twelve, line-closer, below_line, half-dip}
use Rattle.formulas.proofs.Quarters.{sine-quarterly, cosine-quarterly}
use Rattle.formulas.proofs.Wholes.{whole_multiple, large-multiple, zero-wholly, unit-wholly}

-- ---- up to 1 / 16 the series
thirty_two : Size (whole 32) (whole 32)
unfolding size_test
thirty_two = size-by-test (whole 32) (whole 32) tt

few-steps : (y : Fraction) → Size y (frac 1 16) → Size (whole 32 ⊗ y) (whole 7)
unfolding leq
few-steps y h = size-⊑ (by-test {a = whole 32 ⊗ frac 1 16} {b = whole 7} tt) (size-⊗ thirty_two h)

pub sine-of : (y : Fraction) → Size y (frac 1 16) → sin_series (half_turns y) ≈ exact_sine (whole 32 ⊗ y)
sine-of y h = ≈-sym (≈-trans (sine-near-zero (whole 32 ⊗ y) (few-steps y h)) (sin_cong (half-angle y)))

pub cosine-of : (y : Fraction) → Size y (frac 1 16) → cos_series (half_turns y) ≈ exact_cosine (whole 32 ⊗ y)
cosine-of y h = ≈-sym (≈-trans (cosine-near-zero (whole 32 ⊗ y) (few-steps y h)) (cos_cong (half-angle y)))

pub narrow-angle : (y : Fraction) → Size y (frac 1 16) → Size (half_turns y) (frac 4 5)
unfolding leq
narrow-angle y h = size-≈ (half-angle y) (angle (whole 32 ⊗ y) (size-⊑ (by-test {a = whole 7} {b = whole 8} tt) (few-steps y h)))

sine-narrowed : (z : Float) (y : Fraction) → Size y (frac 1 16) → Good z (sin_series (half_turns y)) short → Closer (narrowed z) (exact_sine (whole 32 ⊗ y))
sine-narrowed z y h g = closer-≈ (narrowed z) (sin_series (half_turns y)) (exact_sine (whole 32 ⊗ y)) (sine-of y h) (narrowed-closer z (sin_series (half_turns y)) g (sin_one (half_turns y) (narrow-angle y h)))

cosine-narrowed : (z : Float) (y : Fraction) → Size y (frac 1 16) → Good z (cos_series (half_turns y)) short → Closer (narrowed z) (exact_cosine (whole 32 ⊗ y))
cosine-narrowed z y h g = closer-≈ (narrowed z) (cos_series (half_turns y)) (exact_cosine (whole 32 ⊗ y)) (cosine-of y h) (narrowed-closer z (cos_series (half_turns y)) g (cos_one (half_turns y) (narrow-angle y h)))

-- ---- the words where the ways part
sixteenth : in_units (units_in 123 0) ⊑ frac 1 16
unfolding leq units_in
sixteenth = by-test tt

two-terms : in_units (units_in 107 8485) ⊑ tiny 19
unfolding leq units_in
two-terms = by-test tt

line_word : in_units (units_in 113 2292099) ⊑ below_line
unfolding leq units_in
line_word = by-test tt

line-twelve : below_line ⊑ below_twelve
unfolding leq
line-twelve = by-test {a = below_line} {b = below_twelve} tt

-- ---- below 2 ^ 23 the reducer's answer
reduced : (w : ℕ) → field w < 255 → w % 2147483648 < 0x4b000000 → QuarterReduced (of_bits binary32 w) (reduce_quarter (of_bits binary32 w)).0 (reduce_quarter (of_bits binary32 w)).1
reduced w F k =
    let W = word_of w F in
    let x = of_bits binary32 w in
    quarter x W.fin (fits_widens x (of_bits-fits binary32 w)) (size-⊑ (pw-le (field w - 1 + 24) 149 23 0 (omega arith)) W.size)

-- ---- sine
module _ (w : ℕ) (W : w < 2 ^ 32) (F : field w < 255) where
  abbrev x : Float
  x = of_bits binary32 w

  abbrev s : ℕ
  s = w % 2147483648

  S : size_bits (of_bits binary32 w) ≡ w % 2147483648
  S = size-bits w W F

  abbrev Sine : Float → Type 0
  Sine r = Closer r (exact_sine (whole 32 ⊗ value_of (of_bits binary32 w)))

  sine-at-zero : s ≤ 0 → Sine (sinpif x)
  unfolding leq
  sine-at-zero k =
      let H = zero_word w F k in
      let e : s ≡ 0 = omega arith in
      subst Sine (sym (sinpif-zero x (S ∙ e))) (closer-≈ x (sin_series (half_turns (value_of x))) (exact_sine (whole 32 ⊗ value_of x)) (sine-of (value_of x) (size-⊑ (by-test tt) H.size)) (closer-own x (sin_series (half_turns (value_of x))) (half-zero-near x H)))

  sine-by-terms : 0 < s → s < 0x35802126 → Sine (sinpif x)
  unfolding leq
  sine-by-terms p k =
      let H = held_word w 107 8485 (tiny 19) F (lit< tt) (omega arith) two-terms in
      let n : size_bits x ≡ 0 → ⊥ = λ e. nonzero (sym S ∙ e) in
      subst Sine (sym (sinpif-tiny x n (subst (λ z. z < 0x35802126) (sym S) k))) (sine-narrowed (mul binary64 x (fmla (mul binary64 x x) minus_pi3_over6 pi)) (value_of x) (size-⊑ (by-test tt) H.size) (half-tiny-near x H))
    where
      nonzero : w % 2147483648 ≡ 0 → ⊥
      nonzero e = omega arith

  sine_by_polynomial : 0x35802126 ≤ s → s ≤ 0x3d800000 → Sine (sinpif x)
  sine_by_polynomial h k =
      let H = held_word w 123 0 (frac 1 16) F (lit< tt) (omega arith) sixteenth in
      subst Sine (sym (sinpif-near x (subst (λ z. 0x35802126 ≤ z) (sym S) h) (subst (λ z. z ≤ 0x3d800000) (sym S) k))) (sine-narrowed (sinpi_near x) (value_of x) H.size (half-sine-near x H))

  -- past 1 / 16: at whole numbers, and between
  sine-rest : (t : Bool) → 0x3d800000 < s → (leb 0x4b000000 (size_bits x) || whole_bits x) ≡ t → sinpif x ≡ cond t (zero_of x) (narrowed (by_quarter sine_by (reduce_quarter x)))
  sine-rest t h e =
      let l : s < infinite = omega arith in
      sinpif-rest x t (subst (λ z. 0x3d800000 < z) (sym S) h) (subst (λ z. z < infinite) (sym S) l) e

  sine-at-whole : 0x3d800000 < s → (leb 0x4b000000 (size_bits x) || whole_bits x) ≡ true → Multiple (value_of x) (whole 1) → Sine (sinpif x)
  sine-at-whole h e M = subst Sine (sym (sine-rest true h e)) (closer-own (zero_of x) (exact_sine (whole 32 ⊗ value_of x)) (zero-wholly x x M))

  sine-by-quarter : 0x3d800000 < s → s < 0x4b000000 → (leb 0x4b000000 (size_bits x) || whole_bits x) ≡ false → Sine (sinpif x)
  sine-by-quarter h k e = subst Sine (sym (sine-rest false h e)) (narrowed-closer (by_quarter sine_by (reduce_quarter x)) (exact_sine (whole 32 ⊗ value_of x)) (sine-quarterly x (reduce_quarter x).0 (reduce_quarter x).1 (reduced w F k)) (sine-at-most-one (whole 32 ⊗ value_of x)))

  -- the digits tell whole numbers
  tells : 0 < s → whole_bits x ≡ is_whole x
  tells p =
      let l : s < 2139095040 = omega arith in
      whole-means x (of_bits-fits binary32 w) (subst (λ z. 0 < z) (sym S) p) (subst (λ z. z < 2139095040) (sym S) l)

  sine-past : 0x3d800000 < s → Sine (sinpif x)
  sine-past h =
      elim (dec_le 0x4b000000 s) [
        | yes k ↦ sine-at-whole h (large-whole (size_bits x) (whole_bits x) (subst (λ z. 0x4b000000 ≤ z) (sym S) k)) (large-multiple w (omega arith) F)
        | no k ↦ go (whole_bits x) refl (omega arith)
      ]
    where
      go : (t : Bool) → whole_bits x ≡ t → w % 2147483648 < 0x4b000000 → Sine (sinpif x)
      go true e k = sine-at-whole h (digits-whole (size_bits x) (whole_bits x) e) (whole_multiple x (value-word w F).0 (sym (tells (omega arith)) ∙ e))
      go false e k = sine-by-quarter h k (not_whole (size_bits x) (whole_bits x) (subst (λ z. z < 0x4b000000) (sym S) k) e)

  sine-word : Sine (sinpif x)
  sine-word =
      elim (dec_le s 0x3d800000) [
        | no k ↦ sine-past (omega arith)
        | yes k ↦ elim (dec_le 0x35802126 s) [ yes j ↦ sine_by_polynomial j k | no j ↦ elim (dec_le s 0) [ yes i ↦ sine-at-zero i | no i ↦ sine-by-terms (omega arith) (omega arith) ] ]
      ]

pub half-turn-sine : HalfTurnSine
half-turn-sine w W n = closer-close (sinpif (of_bits binary32 w)) (exact_sine (whole 32 ⊗ value_of (of_bits binary32 w))) (sine-word w W (finite-field w n))

-- ---- cosine, of words without a sign
module _ (v : ℕ) (V : v < 2147483648) (F : field v < 255) where
  abbrev y : Float
  y = of_bits binary32 v

  abbrev Cosine : Float → Type 0
  Cosine r = Closer r (exact_cosine (whole 32 ⊗ value_of (of_bits binary32 v)))

  same_size : size_bits (of_bits binary32 v) ≡ v
  same_size =
      let l : v < 2 ^ 32 = omega arith in
      let e : v % 2147483648 ≡ v = omega arith in
      size-bits v l F ∙ e

  cosine-by-line : v < 0x38a2f984 → Cosine (cospi_of v)
  unfolding leq
  cosine-by-line k =
      let H = held_word v 113 2292099 below_line F (lit< tt) (omega arith) line_word in
      let J : Held y below_twelve = record { fin = H.fin; size = size-⊑ line-twelve H.size } in
      subst Cosine (sym (cospif-line v k)) (closer-≈ (narrowed (fmla y minus_tiny one)) (cos_series (half_turns (value_of y))) (exact_cosine (whole 32 ⊗ value_of y)) (cosine-of (value_of y) (size-⊑ (by-test tt) H.size)) (line-closer y (cos_series (half_turns (value_of y))) J (half-dip (value_of y) H.size)))

  cosine_by_polynomial : 0x38a2f984 ≤ v → v ≤ 0x3d800000 → Cosine (cospi_of v)
  cosine_by_polynomial h k =
      let H = held_word v 123 0 (frac 1 16) F (lit< tt) (omega arith) sixteenth in
      subst Cosine (sym (cospif-near v h k)) (cosine-narrowed (cospi_near y) (value_of y) H.size (half-cosine-near y H))

  cosine-rest : (t : Bool) → 0x3d800000 < v → (leb 0x4b000000 v || whole_bits y) ≡ t → cospi_of v ≡ cond t (unit (odd_bits y)) (narrowed (by_quarter cosine_by (reduce_quarter y)))
  cosine-rest t h e =
      let l : v < infinite = omega arith in
      cospif-rest v t h l e

  cosine-at-whole : 0x3d800000 < v → (leb 0x4b000000 v || whole_bits y) ≡ true → Multiple (value_of y) (whole 1) → Cosine (cospi_of v)
  cosine-at-whole h e M =
      subst Cosine (sym (cosine-rest true h e ∙ ap unit (odd-means y (of_bits-fits binary32 v)))) (closer-own (unit (is_odd y)) (exact_cosine (whole 32 ⊗ value_of y)) (unit-wholly y (value-word v F).0 M))

  cosine-by-quarter : 0x3d800000 < v → v < 0x4b000000 → (leb 0x4b000000 v || whole_bits y) ≡ false → Cosine (cospi_of v)
  cosine-by-quarter h k e =
      let l : v % 2147483648 < 0x4b000000 = omega arith in
      subst Cosine (sym (cosine-rest false h e)) (narrowed-closer (by_quarter cosine_by (reduce_quarter y)) (exact_cosine (whole 32 ⊗ value_of y)) (cosine-quarterly y (reduce_quarter y).0 (reduce_quarter y).1 (reduced v F l)) (cosine-at-most-one (whole 32 ⊗ value_of y)))

  cosine-tells : 0 < v → whole_bits y ≡ is_whole y
  cosine-tells p =
      let l : v < 2139095040 = omega arith in
      whole-means y (of_bits-fits binary32 v) (subst (λ z. 0 < z) (sym same_size) p) (subst (λ z. z < 2139095040) (sym same_size) l)

  cosine-past : 0x3d800000 < v → Cosine (cospi_of v)
  cosine-past h =
      elim (dec_le 0x4b000000 v) [
        | yes k ↦ cosine-at-whole h (large-whole v (whole_bits y) k) (large-multiple v (omega arith) F)
        | no k ↦ go (whole_bits y) refl (omega arith)
      ]
    where
      go : (t : Bool) → whole_bits y ≡ t → v < 0x4b000000 → Cosine (cospi_of v)
      go true e k = cosine-at-whole h (digits-whole v (whole_bits y) e) (whole_multiple y (value-word v F).0 (sym (cosine-tells (omega arith)) ∙ e))
      go false e k = cosine-by-quarter h k (not_whole v (whole_bits y) k e)

  cosine-word : Cosine (cospi_of v)
  cosine-word =
      elim (dec_le v 0x3d800000) [
        | no k ↦ cosine-past (omega arith)
        | yes k ↦ elim (dec_le 0x38a2f984 v) [ yes j ↦ cosine_by_polynomial j k | no j ↦ cosine-by-line (omega arith) ]
      ]

-- the steps of the word without its sign
times-neg : (y : Fraction) → whole 32 ⊗ neg y ≈ neg (whole 32 ⊗ y)
times-neg y = ≈-trans (⊗-comm (whole 32) (neg y)) (≈-trans (≈-sym (neg-⊗ y (whole 32))) (neg_cong (⊗-comm y (whole 32))))

steps-mirrored : (w : ℕ) → field w < 255 → (half_turn_steps (of_bits binary32 w) ≈ half_turn_steps (of_bits binary32 (w % 2147483648))) ⊎ (half_turn_steps (of_bits binary32 w) ≈ neg (half_turn_steps (of_bits binary32 (w % 2147483648))))
steps-mirrored w h = elim (mirrored w h) [ inl e ↦ inl (⊗-cong (≈-refl (whole 32)) e) | inr e ↦ inr (≈-trans (⊗-cong (≈-refl (whole 32)) e) (times-neg (value_of (of_bits binary32 (w % 2147483648))))) ]

pub half-turn-cosine : HalfTurnCosine
half-turn-cosine w W n =
    let F = finite-field w n in
    let v = w % 2147483648 in
    let c = cosine-word v (omega arith) (subst (λ j. j < 255) (sym (field-same w)) F) in
    subst (λ b. Close (cospi_of b) (exact_cosine (half_turn_steps (of_bits binary32 w)))) (sym (size-bits w W F))
    (closer-moved (cospi_of v) (exact_cosine (half_turn_steps (of_bits binary32 v))) (exact_cosine (half_turn_steps (of_bits binary32 w))) (cosine-mirrored (steps-mirrored w F)) c)
