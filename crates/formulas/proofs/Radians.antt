-- The sine and the cosine of radians at every finite word.
use Rattle.std.proofs.Common.{◌≡◌, ℕ, ◌%◌, ◌^◌, ◌<◌, ◌≤◌, ◌≢◌, ◌⊎◌, sym, ap, ◌∙◌, subst, inl, inr, arith, lit<}
use native.Mathlib.Decide.{dec_le}
use lib.Ieee.{Float, binary32, of_bits}
use Rattle.exact.specs.Fraction.{Fraction, ◌≈◌, ◌⊑◌, ◌⊗◌, neg, whole, frac, Size, leq}
use Rattle.exact.specs.Value.{value_of, Good}
use Rattle.exact.proofs.Order.{by-test, ≈-refl, ≈-sym, ≈-trans, ⊗-cong, neg-⊗, size-⊑, size-⊗}
use Rattle.circle.specs.Series.{sin_series, cos_series}
use Rattle.circle.specs.Circle.{exact_sine, exact_cosine}
use Rattle.circle.proofs.Steady.{sin_one, cos_one, sin_cong, cos_cong}
use Rattle.circle.proofs.Mirror.{sine-at-most-one, cosine-at-most-one}
use Rattle.reducers.specs.Reduce.{reduce}
use Rattle.reducers.specs.Exact.{field, steps_per_radian, radian_steps}
use Rattle.reducers.proofs.Radian.{per_radian}
use Rattle.formulas.specs.Words.{size_bits, fmla, narrowed, one, minus_tiny, sine_at, cosine_at}
use Rattle.formulas.specs.Radians.{infinite, sin_near, cos_near, sinf, cos_of}
use Rattle.formulas.specs.Distance.{Close, RadianSine, RadianCosine}
use Rattle.formulas.proofs.Ways.{sinf-zero, sinf-line, sinf-near, sinf-far, cosf-line, cosf-near, cosf-far}
use Rattle.formulas.proofs.Under.{units_in, in_units, size-bits, held_word, field-same, mirrored, zero_word, finite-field}
use Rattle.formulas.proofs.Narrowed.{short, Closer, closer-close, closer-moved, closer-≈, closer-own, narrowed-closer}
use Rattle.formulas.proofs.Angles.{sine-near-zero, cosine-near-zero, radian-angle, cosine-mirrored}
use Rattle.formulas.proofs.Far.{sine-far, cosine-far}
use Rattle.formulas.proofs.Near.{sine-near, cosine-near, line-near, zero-near, below_twelve, cosine-dip, line-closer}

-- ---- up to 1 / 5 the series of the value
few-steps : (x : Float) → Size (value_of x) (frac 1 5) → Size (radian_steps x) (whole 7)
unfolding leq
few-steps x h = size-⊑ (by-test {a = frac 1 5 ⊗ whole 11} {b = whole 7} tt) (size-⊗ h per_radian)

pub sine-of : (x : Float) → Size (value_of x) (frac 1 5) → sin_series (value_of x) ≈ exact_sine (radian_steps x)
sine-of x h = ≈-sym (≈-trans (sine-near-zero (radian_steps x) (few-steps x h)) (sin_cong (radian-angle x)))

pub cosine-of : (x : Float) → Size (value_of x) (frac 1 5) → cos_series (value_of x) ≈ exact_cosine (radian_steps x)
cosine-of x h = ≈-sym (≈-trans (cosine-near-zero (radian_steps x) (few-steps x h)) (cos_cong (radian-angle x)))

wider : {v : Fraction} → Size v (frac 1 5) → Size v (frac 4 5)
unfolding leq
wider h = size-⊑ (by-test tt) h

sine-narrowed : (z x : Float) → Size (value_of x) (frac 1 5) → Good z (sin_series (value_of x)) short → Closer (narrowed z) (exact_sine (radian_steps x))
sine-narrowed z x h g = closer-≈ (narrowed z) (sin_series (value_of x)) (exact_sine (radian_steps x)) (sine-of x h) (narrowed-closer z (sin_series (value_of x)) g (sin_one (value_of x) (wider h)))

cosine-narrowed : (z x : Float) → Size (value_of x) (frac 1 5) → Good z (cos_series (value_of x)) short → Closer (narrowed z) (exact_cosine (radian_steps x))
cosine-narrowed z x h g = closer-≈ (narrowed z) (cos_series (value_of x)) (exact_cosine (radian_steps x)) (cosine-of x h) (narrowed-closer z (cos_series (value_of x)) g (cos_one (value_of x) (wider h)))

-- ---- the words where the ways part
fifth : in_units (units_in 124 4788187) ⊑ frac 1 5
unfolding leq units_in
fifth = by-test tt

thirty : in_units (units_in 115 6854504) ⊑ frac 30 65536
unfolding leq units_in
thirty = by-test tt

pub twelve : in_units (units_in 114 8388607) ⊑ below_twelve
unfolding leq units_in
twelve = by-test tt

-- ---- sine
module _ (w : ℕ) (W : w < 2 ^ 32) (F : field w < 255) where
  abbrev x : Float
  x = of_bits binary32 w

  abbrev s : ℕ
  s = w % 2147483648

  S : size_bits (of_bits binary32 w) ≡ w % 2147483648
  S = size-bits w W F

  abbrev Sine : Float → Type 0
  Sine r = Closer r (exact_sine (radian_steps (of_bits binary32 w)))

  sine-at-zero : s ≤ 0 → Sine (sinf x)
  unfolding leq
  sine-at-zero k =
      let H = zero_word w F k in
      let e : s ≡ 0 = omega arith in
      subst Sine (sym (sinf-zero x (S ∙ e))) (closer-≈ x (sin_series (value_of x)) (exact_sine (radian_steps x)) (sine-of x (size-⊑ (by-test tt) H.size)) (closer-own x (sin_series (value_of x)) (zero-near x H)))

  sine-by-line : 0 < s → s < 0x39e89769 → Sine (sinf x)
  unfolding leq
  sine-by-line p k =
      let H = held_word w 115 6854504 (frac 30 65536) F (lit< tt) (omega arith) thirty in
      let n : size_bits x ≡ 0 → ⊥ = λ e. nonzero (sym S ∙ e) in
      subst Sine (sym (sinf-line x n (subst (λ z. z < 0x39e89769) (sym S) k))) (sine-narrowed (fmla x minus_tiny x) x (size-⊑ (by-test tt) H.size) (line-near x H))
    where
      nonzero : w % 2147483648 ≡ 0 → ⊥
      nonzero e = omega arith

  sine_by_polynomial : 0x39e89769 ≤ s → s ≤ 0x3e490fdb → Sine (sinf x)
  sine_by_polynomial h k =
      let H = held_word w 124 4788187 (frac 1 5) F (lit< tt) (omega arith) fifth in
      subst Sine (sym (sinf-near x (subst (λ z. 0x39e89769 ≤ z) (sym S) h) (subst (λ z. z ≤ 0x3e490fdb) (sym S) k))) (sine-narrowed (sin_near x) x H.size (sine-near x H))

  sine-by-table : 0x3e490fdb < s → Sine (sinf x)
  sine-by-table k =
      let l : s < infinite = omega arith in
      let N : field w ≢ 255 = λ e. clash e in
      let e = sinf-far x (subst (λ z. 0x3e490fdb < z) (sym S) k) (subst (λ z. z < infinite) (sym S) l) ∙ ap (λ b. narrowed (sine_at (reduce x b))) S in
      subst Sine (sym e) (narrowed-closer (sine_at (reduce x s)) (exact_sine (radian_steps x)) (sine-far w N) (sine-at-most-one (radian_steps x)))
    where
      clash : field w ≡ 255 → ⊥
      clash e = omega arith

  sine-word : Sine (sinf x)
  sine-word =
      elim (dec_le s 0x3e490fdb) [
        | no k ↦ sine-by-table (omega arith)
        | yes k ↦ elim (dec_le 0x39e89769 s) [ yes j ↦ sine_by_polynomial j k | no j ↦ elim (dec_le s 0) [ yes i ↦ sine-at-zero i | no i ↦ sine-by-line (omega arith) (omega arith) ] ]
      ]

pub radian-sine : RadianSine
radian-sine w W n = closer-close (sinf (of_bits binary32 w)) (exact_sine (radian_steps (of_bits binary32 w))) (sine-word w W (finite-field w n))

-- ---- cosine, of words without a sign
module _ (v : ℕ) (V : v < 2147483648) (F : field v < 255) where
  abbrev y : Float
  y = of_bits binary32 v

  abbrev Cosine : Float → Type 0
  Cosine r = Closer r (exact_cosine (radian_steps (of_bits binary32 v)))

  cosine-by-line : v < 0x39800000 → Cosine (cos_of v)
  unfolding leq
  cosine-by-line k =
      let H = held_word v 114 8388607 below_twelve F (lit< tt) (omega arith) twelve in
      subst Cosine (sym (cosf-line v k)) (closer-≈ (narrowed (fmla y minus_tiny one)) (cos_series (value_of y)) (exact_cosine (radian_steps y)) (cosine-of y (size-⊑ (by-test tt) H.size)) (line-closer y (cos_series (value_of y)) H (cosine-dip (value_of y) H.size)))

  cosine_by_polynomial : 0x39800000 ≤ v → v ≤ 0x3e490fdb → Cosine (cos_of v)
  cosine_by_polynomial h k =
      let H = held_word v 124 4788187 (frac 1 5) F (lit< tt) (omega arith) fifth in
      subst Cosine (sym (cosf-near v h k)) (cosine-narrowed (cos_near y) y H.size (cosine-near y H))

  cosine-by-table : 0x3e490fdb < v → Cosine (cos_of v)
  cosine-by-table k =
      let l : v < infinite = omega arith in
      let N : field v ≢ 255 = λ e. clash e in
      let E : v % 2147483648 ≡ v = omega arith in
      subst Cosine (sym (cosf-far v k l)) (narrowed-closer (cosine_at (reduce y v)) (exact_cosine (radian_steps y)) (subst (λ b. Good (cosine_at (reduce y b)) (exact_cosine (radian_steps y)) short) E (cosine-far v N)) (cosine-at-most-one (radian_steps y)))
    where
      clash : field v ≡ 255 → ⊥
      clash e = omega arith

  cosine-word : Cosine (cos_of v)
  cosine-word =
      elim (dec_le v 0x3e490fdb) [
        | no k ↦ cosine-by-table (omega arith)
        | yes k ↦ elim (dec_le 0x39800000 v) [ yes j ↦ cosine_by_polynomial j k | no j ↦ cosine-by-line (omega arith) ]
      ]

-- the steps of the word without its sign
steps-mirrored : (w : ℕ) → field w < 255 → (radian_steps (of_bits binary32 w) ≈ radian_steps (of_bits binary32 (w % 2147483648))) ⊎ (radian_steps (of_bits binary32 w) ≈ neg (radian_steps (of_bits binary32 (w % 2147483648))))
steps-mirrored w h = elim (mirrored w h) [ inl e ↦ inl (⊗-cong e (≈-refl steps_per_radian)) | inr e ↦ inr (≈-trans (⊗-cong e (≈-refl steps_per_radian)) (≈-sym (neg-⊗ (value_of (of_bits binary32 (w % 2147483648))) steps_per_radian))) ]

pub radian-cosine : RadianCosine
radian-cosine w W n =
    let F = finite-field w n in
    let v = w % 2147483648 in
    let c = cosine-word v (omega arith) (subst (λ j. j < 255) (sym (field-same w)) F) in
    subst (λ b. Close (cos_of b) (exact_cosine (radian_steps (of_bits binary32 w)))) (sym (size-bits w W F))
    (closer-moved (cos_of v) (exact_cosine (radian_steps (of_bits binary32 v))) (exact_cosine (radian_steps (of_bits binary32 w))) (cosine-mirrored (steps-mirrored w F)) c)
