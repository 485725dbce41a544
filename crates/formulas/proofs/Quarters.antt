-- Half turns by quarters: the reducer and the two polynomials together, before narrowing.
use Rattle.std.proofs.Common.{◌≡◌, ℕ, zero, suc, ◌+◌, ◌*◌, ◌/◌, ◌%◌, ◌<◌, Bool, true, false, cond, ◌||◌, T, eqb, [], ◌∷◌, ℤ, refl, arith, eqb→eq}
use lib.Count.{count_trailing_zeros}
use lib.Ieee.{Float, nan, inf, fin, up, down, of_bits, of_fields, odd, eq, neg as negate}
use lib.Ieee.Fits.{and_l}
use lib.Ieee.Scale.{finite}
use Rattle.exact.specs.Fraction.{Fraction, ◌≈◌, ◌⊑◌, ◌⊕◌, ◌⊗◌, ◌⊖◌, neg, whole, frac, tiny, Size, leq, size_test}
use Rattle.exact.specs.Value.{value_of, integer, Good, Held}
use Rattle.exact.specs.Multiple.{Multiple}
use Rattle.exact.proofs.Order.{by-test, ≈-refl, ≈-sym, ≈-trans, ⊕-cong, ⊗-cong, neg_cong, one-⊗, zero-⊗, neg-⊗, ⊗-comm, size-neg, size-≈, size-⊑, size-⊗, size-by-test, triangle, within-⊑, within-≈, within-neg, within-sym, within-refl}
use Rattle.exact.proofs.Poly.{var, con, ◌:+◌, ◌:*◌, ◌:-◌, free, same}
use Rattle.exact.proofs.Cert.{ring}
use Rattle.exact.proofs.Multiple.{multiple-unit, multiple-⊗, multiple-⊕}
use Rattle.exact.proofs.Rounding.{finite-neg, value-neg}
use Rattle.circle.specs.Series.{sin_series, cos_series}
use Rattle.circle.specs.Circle.{step, quarter, exact_sine, exact_cosine, Alike}
use Rattle.circle.proofs.Steady.{sin_cong, cos_cong}
use Rattle.circle.proofs.Mirror.{sin_neg, alike-sine, alike-cosine}
use Rattle.reducers.specs.Exact.{mod_turn, QuarterReduced}
use Rattle.reducers.proofs.Turns.{mod_turn_turns, turns-alike}
use Rattle.formulas.specs.Words.{zero64}
use Rattle.formulas.specs.HalfTurns.{sinpi_y, cospi_y, sine_by, cosine_by}
use Rattle.formulas.proofs.Narrowed.{short}
use Rattle.formulas.proofs.Angles.{quarters_on, half_turns, half-angle, sine-quarters, cosine-quarters}
use Rattle.formulas.proofs.Near.{piece, quarter-sine-near, quarter-cosine-near}

-- ---- whole turns aside
pub turns-of : (n : ℕ) → Multiple (whole 64 ⊗ whole n) (whole 64)
turns-of n = record { p = n; m = 0; is = ⊗-comm (whole 64) (whole n) }

rejoined : (X K J i q Y : Fraction) → Y ≈ X ⊖ K ⊗ frac 1 2 → J ≈ whole 4 ⊗ q ⊕ i → (whole 16 ⊗ i ⊕ whole 32 ⊗ Y) ⊕ (whole 16 ⊗ (K ⊖ J) ⊕ whole 64 ⊗ q) ≈ whole 32 ⊗ X
unfolding same
rejoined X K J i q Y e f =
    ≈-trans (⊕-cong (⊕-cong (≈-refl (whole 16 ⊗ i)) (⊗-cong (≈-refl (whole 32)) e)) (⊕-cong (⊗-cong (≈-refl (whole 16)) (⊕-cong (≈-refl K) (neg_cong f))) (≈-refl (whole 64 ⊗ q))))
    (ring (free X ∷ free K ∷ free i ∷ free q ∷ [])
    ((con (whole 16) :* var 2 :+ con (whole 32) :* (var 0 :- var 1 :* con (frac 1 2))) :+ (con (whole 16) :* (var 1 :- (con (whole 4) :* var 3 :+ var 2)) :+ con (whole 64) :* var 3))
    (con (whole 32) :* var 0) tt)

by-four : (j : ℕ) → whole j ≈ whole 4 ⊗ whole (j / 4) ⊕ whole (j % 4)
by-four j = record { eq = omega arith }

quarter-turns : (k : ℤ) → Multiple (whole 16 ⊗ (integer k ⊖ whole (mod_turn k))) (whole 64)
quarter-turns k = multiple-unit (one-⊗ (whole 64)) (multiple-⊗ {a = whole 16} {u = whole 1} (record { p = 16; m = 0; is = record { eq = refl } }) (mod_turn_turns k))

quarters-alike : (X Y : Fraction) (k : ℤ) → Y ≈ X ⊖ integer k ⊗ frac 1 2 → Alike (quarters_on (mod_turn k % 4) (whole 32 ⊗ Y)) (whole 32 ⊗ X) (whole 0)
quarters-alike X Y k e =
    let j = mod_turn k in
    turns-alike (quarters_on (j % 4) (whole 32 ⊗ Y)) (whole 32 ⊗ X) (whole 0) (whole 16 ⊗ (integer k ⊖ whole j) ⊕ whole 64 ⊗ whole (j / 4)) (multiple-⊕ (quarter-turns k) (turns-of (j / 4)))
    (within-refl (rejoined X (integer k) (whole j) (whole (j % 4)) (whole (j / 4)) Y e (by-four j)))

-- ---- the two polynomials with either sign
good-neg : (r : Float) (v e : Fraction) → Good r v e → Good (negate r) (neg v) e
good-neg r v e g = record { fin = finite-neg r g.fin; near = within-≈ (≈-sym (value-neg r)) (≈-refl (neg v)) (within-neg g.near) }

held-neg : (y : Float) (b : Fraction) → Held y b → Held (negate y) b
held-neg y b H = record { fin = finite-neg y H.fin; size = size-≈ (≈-sym (value-neg y)) (size-neg H.size) }

half-neg : (y : Float) → half_turns (value_of (negate y)) ≈ neg (half_turns (value_of y))
half-neg y = ≈-trans (⊗-cong (value-neg y) (≈-refl (whole 32 ⊗ step))) (≈-sym (neg-⊗ (value_of y) (whole 32 ⊗ step)))

zero-series : sin_series (whole 0) ≈ whole 0
unfolding sin_series
zero-series = record { eq = refl }

zero-value : value_of zero64 ≈ neg (whole 0)
unfolding of_bits of_fields odd count_trailing_zeros
zero-value = record { eq = refl }

zero-finite : T (finite zero64)
unfolding of_bits of_fields odd count_trailing_zeros
zero-finite = tt

-- equal to zero is zero
pub is_zero : (y : Float) → T (finite y) → T (eq y zero64) → value_of y ≈ whole 0
unfolding eq of_bits of_fields odd count_trailing_zeros
is_zero nan p t = absurd p
is_zero (inf s) p t = absurd p
is_zero (fin true m e) p t = record { eq = none (m * up e) (down e) (eqb→eq (m * up e * 1) (0 * 1 * down e) (and_l (eqb (m * up e * 1) (0 * 1 * down e)) (false || eqb (m * up e * 1) 0) t)) }
  where
    none : (n d : ℕ) → n * 1 ≡ 0 * 1 * d → 0 * 1 + 0 * d ≡ 0 * d + n * 1
    none n d h = omega arith
is_zero (fin false m e) p t = record { eq = none (m * up e) (down e) (eqb→eq (m * up e * 1) (0 * 1 * down e) (and_l (eqb (m * up e * 1) (0 * 1 * down e)) (true || eqb (m * up e * 1) 0) t)) }
  where
    none : (n d : ℕ) → n * 1 ≡ 0 * 1 * d → n * 1 + 0 * d ≡ 0 * d + 0 * 1
    none n d h = omega arith

module _ (y : Float) (H : Held y (frac 1 4)) where
  abbrev r : Fraction
  r = whole 32 ⊗ value_of y

  plus-sine : Good (sinpi_y y) (sin_series (r ⊗ step)) piece
  plus-sine = let g = quarter-sine-near y H in record { fin = g.fin; near = within-≈ (≈-refl (value_of (sinpi_y y))) (sin_cong (≈-sym (half-angle (value_of y)))) g.near }

  plus-cosine : Good (cospi_y y) (cos_series (r ⊗ step)) piece
  plus-cosine = let g = quarter-cosine-near y H in record { fin = g.fin; near = within-≈ (≈-refl (value_of (cospi_y y))) (cos_cong (≈-sym (half-angle (value_of y)))) g.near }

  opposite : sin_series (half_turns (value_of (negate y))) ≈ neg (sin_series (r ⊗ step))
  opposite = ≈-trans (sin_cong (half-neg y)) (≈-trans (sin_neg (half_turns (value_of y))) (neg_cong (sin_cong (≈-sym (half-angle (value_of y))))))

  minus-sine : Good (sinpi_y (negate y)) (neg (sin_series (r ⊗ step))) piece
  minus-sine = let g = quarter-sine-near (negate y) (held-neg y (frac 1 4) H) in record { fin = g.fin; near = within-≈ (≈-refl (value_of (sinpi_y (negate y)))) opposite g.near }

  minus-cosine : Good (negate (cospi_y y)) (neg (cos_series (r ⊗ step))) piece
  minus-cosine = good-neg (cospi_y y) (cos_series (r ⊗ step)) piece plus-cosine

  at_zero : value_of y ≈ whole 0 → Good zero64 (neg (sin_series (r ⊗ step))) piece
  unfolding leq
  at_zero e =
      let a : half_turns (value_of y) ≈ whole 0 = ≈-trans (⊗-cong e (≈-refl (whole 32 ⊗ step))) (zero-⊗ (whole 32 ⊗ step)) in
      let b : sin_series (r ⊗ step) ≈ whole 0 = ≈-trans (sin_cong (≈-trans (half-angle (value_of y)) a)) zero-series in
      record { fin = zero-finite; near = within-⊑ (by-test {a = whole 0} {b = piece} tt) (within-refl (≈-trans zero-value (neg_cong (≈-sym b)))) }

  minus-sine-or-zero : Good (cond (eq y zero64) zero64 (sinpi_y (negate y))) (neg (sin_series (r ⊗ step))) piece
  minus-sine-or-zero = go (eq y zero64) (λ t. at_zero (is_zero y H.fin t))
    where
      go : (t : Bool) → (T t → Good zero64 (neg (sin_series (r ⊗ step))) piece) → Good (cond t zero64 (sinpi_y (negate y))) (neg (sin_series (r ⊗ step))) piece
      go true f = f tt
      go false f = minus-sine

  sine-by : (i : ℕ) → i < 4 → Good (sine_by i y) (quarter i (r ⊗ step)) piece
  unfolding quarter
  sine-by zero h = plus-sine
  sine-by (suc zero) h = plus-cosine
  sine-by (suc (suc zero)) h = minus-sine
  sine-by (suc (suc (suc zero))) h = minus-cosine
  sine-by (suc (suc (suc (suc i)))) h = absurd (omega arith)

  cosine-by : (i : ℕ) → i < 4 → Good (cosine_by i y) (quarter (suc i) (r ⊗ step)) piece
  unfolding quarter
  cosine-by zero h = plus-cosine
  cosine-by (suc zero) h = minus-sine-or-zero
  cosine-by (suc (suc zero)) h = minus-cosine
  cosine-by (suc (suc (suc zero))) h = plus-sine
  cosine-by (suc (suc (suc (suc i)))) h = absurd (omega arith)

  eight : Size r (whole 8)
  unfolding leq size_test
  eight = size-⊑ (by-test {a = whole 32 ⊗ frac 1 4} {b = whole 8} tt) (size-⊗ (size-by-test (whole 32) (whole 32) tt) H.size)

-- ---- together
abbrev quarterly : Fraction
quarterly = (piece ⊕ tiny 80) ⊕ (whole 0 ⊗ step ⊕ tiny 70)

quarterly-short : quarterly ⊑ short
unfolding leq step
quarterly-short = by-test {a = quarterly} {b = short} tt

module _ (x y : Float) (k : ℤ) (R : QuarterReduced x y k) where
  held : Held y (frac 1 4)
  held = record { fin = R.fin; size = R.small }

  pub sine-quarterly : Good (sine_by (mod_turn k % 4) y) (exact_sine (whole 32 ⊗ value_of x)) short
  sine-quarterly =
      let i = mod_turn k % 4 in
      let l : i < 4 = omega arith in
      let g = sine-by y held i l in
      record { fin = g.fin; near = within-⊑ quarterly-short (triangle (triangle g.near (within-sym (sine-quarters i (whole 32 ⊗ value_of y) (eight y held)))) (alike-sine (quarters_on i (whole 32 ⊗ value_of y)) (whole 32 ⊗ value_of x) (whole 0) (quarters-alike (value_of x) (value_of y) k R.exact))) }

  pub cosine-quarterly : Good (cosine_by (mod_turn k % 4) y) (exact_cosine (whole 32 ⊗ value_of x)) short
  cosine-quarterly =
      let i = mod_turn k % 4 in
      let l : i < 4 = omega arith in
      let g = cosine-by y held i l in
      record { fin = g.fin; near = within-⊑ quarterly-short (triangle (triangle g.near (within-sym (cosine-quarters i (whole 32 ⊗ value_of y) (eight y held)))) (alike-cosine (quarters_on i (whole 32 ⊗ value_of y)) (whole 32 ⊗ value_of x) (whole 0) (quarters-alike (value_of x) (value_of y) k R.exact))) }
