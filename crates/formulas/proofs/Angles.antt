-- The exact sine and cosine within a quarter turn, as series; the series of radians and of half turns.
use Rattle.std.proofs.Common.{ℕ, suc, ◌⊎◌, [], ◌∷◌, refl, inl, inr, arith}
use lib.Ieee.{Float}
use Rattle.exact.specs.Fraction.{Fraction, ◌≈◌, ◌⊑◌, ◌⊕◌, ◌⊗◌, ◌⊖◌, neg, whole, tiny, Size, Within, leq}
use Rattle.exact.specs.Value.{value_of}
use Rattle.exact.proofs.Order.{by-test, ≈-refl, ≈-sym, ≈-trans, ≈→⊑, ≈→⊒, ⊑_trans, ⊑-antisym, ⊑-dec, ⊕-cong, ⊗-assoc, ⊗-one, ⊗-cong, tiny-pos, size→within, within-⊑, within-≈, within-sym, within-refl}
use Rattle.exact.proofs.Poly.{var, con, ◌:+◌, ◌:*◌, ◌:-◌, free, same}
use Rattle.exact.proofs.Cert.{ring}
use Rattle.circle.specs.Series.{sin_series, cos_series}
use Rattle.circle.specs.Circle.{step, quarter, left, Nearest, exact_sine, exact_cosine}
use Rattle.circle.proofs.Circle.{quarter-next}
use Rattle.circle.proofs.Steady.{sine-is, cosine-is, quarter_cong}
use Rattle.circle.proofs.Turn.{left_suc}
use Rattle.circle.proofs.Mirror.{eight-less, same-sine, same-cosine, even-cosine}
use Rattle.reducers.specs.Exact.{steps_per_radian, radian_steps}

-- i quarters and r steps more
abbrev pub quarters_on : ℕ → Fraction → Fraction
quarters_on i r = whole 16 ⊗ whole i ⊕ r

left_is : (i : ℕ) (r : Fraction) → left (quarters_on i r) i 0 ≈ r
unfolding same
left_is i r = ring (free (whole i) ∷ free r ∷ []) (((con (whole 16) :* var 0 :+ var 1) :+ con (whole 64) :* con (whole 0)) :- con (whole 16) :* var 0) (var 1) tt

module _ (f : Fraction → Fraction) (g : ℕ → ℕ) (is : (u : Fraction) (m n : ℕ) → Nearest u m n → f u ≈ quarter (g m) (left u m n ⊗ step)) (next : (m : ℕ) → Size (quarter (g (suc m)) (neg (whole 8) ⊗ step) ⊖ quarter (g m) (whole 8 ⊗ step)) (tiny 80)) where
  inside : (i : ℕ) (r : Fraction) → neg (whole 8) ⊑ r → ¬ (whole 8 ⊑ r) → f (quarters_on i r) ≈ quarter (g i) (r ⊗ step)
  inside i r a b =
      let l = left_is i r in
      ≈-trans (is (quarters_on i r) i 0 (record { above = ⊑_trans a (≈→⊒ l); below = λ k. b (⊑_trans k (≈→⊑ l)) })) (quarter_cong (g i) (⊗-cong l (≈-refl step)))

  -- at the end of a quarter the next one begins
  ending : (i : ℕ) (r : Fraction) → r ≈ whole 8 → Within (f (quarters_on i r)) (quarter (g i) (r ⊗ step)) (tiny 80)
  ending i r e =
      let u = quarters_on i r in
      let l : left u (suc i) 0 ≈ neg (whole 8) = ≈-trans (left_suc u i 0) (≈-trans (⊕-cong (≈-trans (left_is i r) e) (≈-refl (neg (whole 16)))) eight-less) in
      let n : Nearest u (suc i) 0 = record { above = ≈→⊒ l; below = λ k. apart (⊑_trans k (≈→⊑ l)) } in
      within-≈ (≈-sym (≈-trans (is u (suc i) 0 n) (quarter_cong (g (suc i)) (⊗-cong l (≈-refl step))))) (quarter_cong (g i) (⊗-cong (≈-sym e) (≈-refl step))) (size→within (next i))
    where
      apart : whole 8 ⊑ neg (whole 8) → ⊥
      apart k = omega (arith, k.le)

  by-quarters : (i : ℕ) (r : Fraction) → Size r (whole 8) → Within (f (quarters_on i r)) (quarter (g i) (r ⊗ step)) (tiny 80)
  by-quarters i r h = elim (⊑-dec (whole 8) r) [ yes k ↦ ending i r (⊑-antisym h.below k) | no k ↦ within-⊑ (tiny-pos 80) (within-refl (inside i r h.above k)) ]

pub sine-quarters : (i : ℕ) (r : Fraction) → Size r (whole 8) → Within (exact_sine (quarters_on i r)) (quarter i (r ⊗ step)) (tiny 80)
sine-quarters = by-quarters exact_sine (λ m. m) sine-is quarter-next

pub cosine-quarters : (i : ℕ) (r : Fraction) → Size r (whole 8) → Within (exact_cosine (quarters_on i r)) (quarter (suc i) (r ⊗ step)) (tiny 80)
cosine-quarters = by-quarters exact_cosine suc cosine-is (λ m. quarter-next (suc m))

-- ---- near zero
none-on : (r : Fraction) → quarters_on 0 r ≈ r
unfolding same
none-on r = ring (free r ∷ []) (con (whole 16) :* con (whole 0) :+ var 0) (var 0) tt

not_eight : (r : Fraction) → Size r (whole 7) → ¬ (whole 8 ⊑ r)
not_eight r h k = clash (⊑_trans k h.below)
  where
    clash : whole 8 ⊑ whole 7 → ⊥
    clash l = omega (arith, l.le)

not_below : (r : Fraction) → Size r (whole 7) → neg (whole 8) ⊑ r
unfolding leq
not_below r h = ⊑_trans (by-test tt) h.above

pub sine-near-zero : (r : Fraction) → Size r (whole 7) → exact_sine r ≈ sin_series (r ⊗ step)
unfolding quarter
sine-near-zero r h = ≈-trans (same-sine r (quarters_on 0 r) (≈-sym (none-on r))) (inside exact_sine (λ m. m) sine-is quarter-next 0 r (not_below r h) (not_eight r h))

pub cosine-near-zero : (r : Fraction) → Size r (whole 7) → exact_cosine r ≈ cos_series (r ⊗ step)
unfolding quarter
cosine-near-zero r h = ≈-trans (same-cosine r (quarters_on 0 r) (≈-sym (none-on r))) (inside exact_cosine suc cosine-is (λ m. quarter-next (suc m)) 0 r (not_below r h) (not_eight r h))

-- ---- radians and half turns
one-radian : steps_per_radian ⊗ step ≈ whole 1
unfolding step
one-radian = record { eq = refl }

pub radian-angle : (x : Float) → radian_steps x ⊗ step ≈ value_of x
radian-angle x = ≈-trans (⊗-assoc (value_of x) steps_per_radian step) (≈-trans (⊗-cong (≈-refl (value_of x)) one-radian) (⊗-one (value_of x)))

-- the angle of y half turns
abbrev pub half_turns : Fraction → Fraction
half_turns y = y ⊗ (whole 32 ⊗ step)

pub half-angle : (y : Fraction) → (whole 32 ⊗ y) ⊗ step ≈ half_turns y
unfolding same
half-angle y = ring (free y ∷ free step ∷ []) ((con (whole 32) :* var 0) :* var 1) (var 0 :* (con (whole 32) :* var 1)) tt

-- ---- the cosine of the opposite angle
pub cosine-mirrored : {u v : Fraction} → (u ≈ v) ⊎ (u ≈ neg v) → Within (exact_cosine v) (exact_cosine u) (tiny 80)
cosine-mirrored {u} {v} (inl e) = within-⊑ (tiny-pos 80) (within-refl (same-cosine v u (≈-sym e)))
cosine-mirrored {u} {v} (inr e) = within-sym (within-≈ (same-cosine (neg v) u (≈-sym e)) (≈-refl (exact_cosine v)) (even-cosine v))
