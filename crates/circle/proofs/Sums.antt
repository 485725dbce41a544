-- The sine and the cosine of any sum.
use mathlib.Core.List.{[], ◌∷◌}
use Prim.Native.Nat.{ℕ, zero, suc}
use Rattle.exact.specs.Fraction.{Fraction, ◌≈◌, ◌⊑◌, ◌⊕◌, ◌⊗◌, ◌⊖◌, neg, whole, frac, tiny, Size, Within, leq}
use Rattle.exact.proofs.Poly.{var, con, ◌:+◌, ◌:*◌, minus, ◌:-◌, free, same}
use Rattle.exact.proofs.Order.{≈-refl, ≈-sym, ≈-trans, ≈→⊑, ⊑_trans, ⊕-cong, ⊗-cong, neg_cong, by-test, size-⊑, size-⊗, triangle, within-sym, within-⊑, within-≈, within-⊕, within-neg, within-mul-right, ⊗-comm}
use Rattle.exact.proofs.Cert.{ring}
use Rattle.circle.specs.Series.{sin_series, cos_series}
use Rattle.circle.specs.Circle.{step, quarter, left, turns_on, Nearest, turns, nearest, exact_sine, exact_cosine, SumSine, SumCosine}
use Rattle.circle.proofs.Steady.{sin_cong, cos_cong, sine-is, cosine-is, rounds, nearest-eight}
use Rattle.circle.proofs.Turn.{turn-sine, turn-cosine}
use Rattle.circle.proofs.Mirror.{sine-at-most-one, cosine-at-most-one, same-sine, same-cosine, quarter-further, half-turn, turns-sine, turns-cosine}

-- S C + C S and C C - S S
abbrev mixed : Fraction → Fraction → Fraction → Fraction → Fraction
mixed s c s' c' = s ⊗ c' ⊕ c ⊗ s'

abbrev turned : Fraction → Fraction → Fraction → Fraction → Fraction
turned s c s' c' = c ⊗ c' ⊖ s ⊗ s'

-- the law of sums for one v and every u
record Adds (v e : Fraction) : Type 0 where
  sine : (u : Fraction) → Within (exact_sine (u ⊕ v)) (mixed (exact_sine u) (exact_cosine u) (exact_sine v) (exact_cosine v)) e
  cosine : (u : Fraction) → Within (exact_cosine (u ⊕ v)) (turned (exact_sine u) (exact_cosine u) (exact_sine v) (exact_cosine v)) e

-- ---- up to 1 step
plain : (y : Fraction) → left y 0 0 ≈ y
unfolding same
plain y = ring (free y ∷ []) ((var 0 :+ con (whole 64) :* con (whole 0)) :- con (whole 16) :* con (whole 0)) (var 0) tt

first : (y : Fraction) → Size y (whole 1) → Nearest y 0 0
unfolding leq
first y h = record { above = ⊑_trans (by-test tt) (⊑_trans h.above (≈→⊑ (≈-sym (plain y)))); below = λ k. absurd (far (⊑_trans k (⊑_trans (≈→⊑ (plain y)) h.below))) }
  where
    far : whole 8 ⊑ whole 1 → ⊥
    far k = omega (native.Mathlib.Omega.arith, k.le)

sine-first : (y : Fraction) → Size y (whole 1) → exact_sine y ≈ sin_series (y ⊗ step)
unfolding quarter
sine-first y h = ≈-trans (sine-is y 0 0 (first y h)) (sin_cong (⊗-cong (plain y) (≈-refl step)))

cosine-first : (y : Fraction) → Size y (whole 1) → exact_cosine y ≈ cos_series (y ⊗ step)
unfolding quarter
cosine-first y h = ≈-trans (cosine-is y 0 0 (first y h)) (cos_cong (⊗-cong (plain y) (≈-refl step)))

adds_one : (y : Fraction) → Size y (whole 1) → Adds y (tiny 68)
adds_one y h =
    let s = ≈-sym (sine-first y h) in
    let c = ≈-sym (cosine-first y h) in
    record {
      sine = λ u. within-≈ (≈-refl (exact_sine (u ⊕ y))) (⊕-cong (⊗-cong (≈-refl (exact_sine u)) c) (⊗-cong (≈-refl (exact_cosine u)) s)) (turn-sine u y h);
      cosine = λ u. within-≈ (≈-refl (exact_cosine (u ⊕ y))) (⊕-cong (⊗-cong (≈-refl (exact_cosine u)) c) (neg_cong (⊗-cong (≈-refl (exact_sine u)) s))) (turn-cosine u y h);
    }

-- ---- twice as far
times-one : (a b c e : Fraction) → Size c (whole 1) → Within a b e → Within (a ⊗ c) (b ⊗ c) e
unfolding same
times-one a b c e h k = within-⊑ (≈→⊑ (ring (free e ∷ []) (var 0 :* con (whole 1)) (var 0) tt)) (within-mul-right k h)

mix-sine : (s c s1 c1 s2 c2 e : Fraction) → Size s2 (whole 1) → Size c2 (whole 1) → Within s s1 e → Within c c1 e → Within (mixed s c s2 c2) (mixed s1 c1 s2 c2) (e ⊕ e)
mix-sine s c s1 c1 s2 c2 e S C h k = within-⊕ (times-one s s1 c2 e C h) (times-one c c1 s2 e S k)

mix-cosine : (s c s1 c1 s2 c2 e : Fraction) → Size s2 (whole 1) → Size c2 (whole 1) → Within s s1 e → Within c c1 e → Within (turned s c s2 c2) (turned s1 c1 s2 c2) (e ⊕ e)
mix-cosine s c s1 c1 s2 c2 e S C h k = within-⊕ (times-one c c1 c2 e C k) (within-neg (times-one s s1 s2 e S h))

-- (u + v) + v by u and (v + v)
again-sine : (s c t d : Fraction) → mixed (mixed s c t d) (turned s c t d) t d ≈ mixed s c (mixed t d t d) (turned t d t d)
unfolding same
again-sine s c t d =
    ring (free s ∷ free c ∷ free t ∷ free d ∷ []) ((var 0 :* var 3 :+ var 1 :* var 2) :* var 3 :+ (var 1 :* var 3 :- var 0 :* var 2) :* var 2)
    (var 0 :* (var 3 :* var 3 :- var 2 :* var 2) :+ var 1 :* (var 2 :* var 3 :+ var 3 :* var 2)) tt

again-cosine : (s c t d : Fraction) → turned (mixed s c t d) (turned s c t d) t d ≈ turned s c (mixed t d t d) (turned t d t d)
unfolding same
again-cosine s c t d =
    ring (free s ∷ free c ∷ free t ∷ free d ∷ []) ((var 1 :* var 3 :- var 0 :* var 2) :* var 3 :- (var 0 :* var 3 :+ var 1 :* var 2) :* var 2)
    (var 1 :* (var 3 :* var 3 :- var 2 :* var 2) :- var 0 :* (var 2 :* var 3 :+ var 3 :* var 2)) tt

times-left : (a b c e : Fraction) → Size c (whole 1) → Within a b e → Within (c ⊗ a) (c ⊗ b) e
times-left a b c e h k = within-≈ (⊗-comm a c) (⊗-comm b c) (times-one a b c e h k)

gather : (e : Fraction) → e ⊕ (e ⊕ e) ⊕ (e ⊕ e) ⊑ whole 5 ⊗ e
unfolding same
gather e = ≈→⊑ (ring (free e ∷ []) (var 0 :+ (var 0 :+ var 0) :+ (var 0 :+ var 0)) (con (whole 5) :* var 0) tt)

further : (u v : Fraction) → (u ⊕ v) ⊕ v ≈ u ⊕ (v ⊕ v)
unfolding same
further u v = ring (free u ∷ free v ∷ []) ((var 0 :+ var 1) :+ var 1) (var 0 :+ (var 1 :+ var 1)) tt

twice : (v e : Fraction) → Adds v e → Adds (v ⊕ v) (whole 5 ⊗ e)
twice v e A =
    let S = sine-at-most-one v in
    let C = cosine-at-most-one v in
    let t = exact_sine v in
    let d = exact_cosine v in
    record {
      sine = λ u. (let s = exact_sine u in let c = exact_cosine u in
          within-≈ (same-sine ((u ⊕ v) ⊕ v) (u ⊕ (v ⊕ v)) (further u v)) (≈-refl (mixed s c (exact_sine (v ⊕ v)) (exact_cosine (v ⊕ v))))
          (within-⊑ (gather e) (triangle (triangle (A.sine (u ⊕ v)) (within-≈ (≈-refl (mixed (exact_sine (u ⊕ v)) (exact_cosine (u ⊕ v)) t d)) (again-sine s c t d) (mix-sine (exact_sine (u ⊕ v)) (exact_cosine (u ⊕ v)) (mixed s c t d) (turned s c t d) t d e S C (A.sine u) (A.cosine u))))
          (within-⊕ (times-left (turned t d t d) (exact_cosine (v ⊕ v)) s e (sine-at-most-one u) (within-sym (A.cosine v))) (times-left (mixed t d t d) (exact_sine (v ⊕ v)) c e (cosine-at-most-one u) (within-sym (A.sine v)))))));
      cosine = λ u. (let s = exact_sine u in let c = exact_cosine u in
          within-≈ (same-cosine ((u ⊕ v) ⊕ v) (u ⊕ (v ⊕ v)) (further u v)) (≈-refl (turned s c (exact_sine (v ⊕ v)) (exact_cosine (v ⊕ v))))
          (within-⊑ (gather e) (triangle (triangle (A.cosine (u ⊕ v)) (within-≈ (≈-refl (turned (exact_sine (u ⊕ v)) (exact_cosine (u ⊕ v)) t d)) (again-cosine s c t d) (mix-cosine (exact_sine (u ⊕ v)) (exact_cosine (u ⊕ v)) (mixed s c t d) (turned s c t d) t d e S C (A.sine u) (A.cosine u))))
          (within-⊕ (times-left (turned t d t d) (exact_cosine (v ⊕ v)) c e (cosine-at-most-one u) (within-sym (A.cosine v))) (within-neg (times-left (mixed t d t d) (exact_sine (v ⊕ v)) s e (sine-at-most-one u) (within-sym (A.sine v))))))));
    }

-- ---- equal angles, larger bounds
adds_as : (v w e : Fraction) → ((u : Fraction) → exact_sine (u ⊕ v) ≈ exact_sine (u ⊕ w)) → ((u : Fraction) → exact_cosine (u ⊕ v) ≈ exact_cosine (u ⊕ w)) → exact_sine v ≈ exact_sine w → exact_cosine v ≈ exact_cosine w → Adds v e → Adds w e
adds_as v w e p q s c A = record {
  sine = λ u. within-≈ (p u) (⊕-cong (⊗-cong (≈-refl (exact_sine u)) c) (⊗-cong (≈-refl (exact_cosine u)) s)) (A.sine u);
  cosine = λ u. within-≈ (q u) (⊕-cong (⊗-cong (≈-refl (exact_cosine u)) c) (neg_cong (⊗-cong (≈-refl (exact_sine u)) s))) (A.cosine u);
}

adds-≈ : (v w e : Fraction) → v ≈ w → Adds v e → Adds w e
adds-≈ v w e h A = adds_as v w e (λ u. same-sine (u ⊕ v) (u ⊕ w) (⊕-cong (≈-refl u) h)) (λ u. same-cosine (u ⊕ v) (u ⊕ w) (⊕-cong (≈-refl u) h)) (same-sine v w h) (same-cosine v w h) A

adds-⊑ : (v d e : Fraction) → d ⊑ e → Adds v d → Adds v e
adds-⊑ v d e h A = record { sine = λ u. within-⊑ h (A.sine u); cosine = λ u. within-⊑ h (A.cosine u) }

-- ---- up to 8 steps
eighth : (r : Fraction) → Size r (whole 8) → Size (r ⊗ frac 1 8) (whole 1)
unfolding leq
eighth r h = size-⊑ (by-test {a = whole 8 ⊗ frac 1 8} {b = whole 1} tt) (size-⊗ {d = frac 1 8} h (record { below = by-test tt; above = by-test tt }))

eight : (y r : Fraction) → y ≈ r ⊗ frac 1 8 → ((y ⊕ y) ⊕ (y ⊕ y)) ⊕ ((y ⊕ y) ⊕ (y ⊕ y)) ≈ r
unfolding same
eight y r e =
    ≈-trans (ring (free y ∷ []) (((var 0 :+ var 0) :+ (var 0 :+ var 0)) :+ ((var 0 :+ var 0) :+ (var 0 :+ var 0))) (var 0 :* con (whole 8)) tt)
    (≈-trans (⊗-cong e (≈-refl (whole 8))) (ring (free r ∷ []) ((var 0 :* con (frac 1 8)) :* con (whole 8)) (var 0) tt))

adds-eight : (r : Fraction) → Size r (whole 8) → Adds r (tiny 61)
unfolding leq
adds-eight r h =
    let y = r ⊗ frac 1 8 in
    let A = twice ((y ⊕ y) ⊕ (y ⊕ y)) (whole 5 ⊗ (whole 5 ⊗ tiny 68)) (twice (y ⊕ y) (whole 5 ⊗ tiny 68) (twice y (tiny 68) (adds_one y (eighth r h)))) in
    adds-≈ (((y ⊕ y) ⊕ (y ⊕ y)) ⊕ ((y ⊕ y) ⊕ (y ⊕ y))) r (tiny 61) (eight y r (≈-refl y)) (adds-⊑ (((y ⊕ y) ⊕ (y ⊕ y)) ⊕ ((y ⊕ y) ⊕ (y ⊕ y))) (whole 5 ⊗ (whole 5 ⊗ (whole 5 ⊗ tiny 68))) (tiny 61) (by-test tt) A)

-- ---- a quarter further
cosine-further : (v : Fraction) → exact_cosine (v ⊕ whole 16) ≈ neg (exact_sine v)
unfolding same
cosine-further v =
    let e : (v ⊕ whole 16) ⊕ whole 16 ≈ v ⊕ whole 32 = ring (free v ∷ []) ((var 0 :+ con (whole 16)) :+ con (whole 16)) (var 0 :+ con (whole 32)) tt in
    ≈-trans (quarter-further (v ⊕ whole 16)) (≈-trans (same-sine ((v ⊕ whole 16) ⊕ whole 16) (v ⊕ whole 32) e) (half-turn v))

regroup : (u v w : Fraction) → (u ⊕ v) ⊕ w ≈ u ⊕ (v ⊕ w)
unfolding same
regroup u v w = ring (free u ∷ free v ∷ free w ∷ []) ((var 0 :+ var 1) :+ var 2) (var 0 :+ (var 1 :+ var 2)) tt

to-sine : (s c t d : Fraction) → turned s c t d ≈ s ⊗ neg t ⊕ c ⊗ d
unfolding same
to-sine s c t d = ring (free s ∷ free c ∷ free t ∷ free d ∷ []) (var 1 :* var 3 :- var 0 :* var 2) (var 0 :* minus (var 2) :+ var 1 :* var 3) tt

to-cosine : (s c t d : Fraction) → neg (mixed s c t d) ≈ c ⊗ neg t ⊖ s ⊗ d
unfolding same
to-cosine s c t d = ring (free s ∷ free c ∷ free t ∷ free d ∷ []) (minus (var 0 :* var 3 :+ var 1 :* var 2)) (var 1 :* minus (var 2) :- var 0 :* var 3) tt

adds-quarter : (v e : Fraction) → Adds v e → Adds (v ⊕ whole 16) e
adds-quarter v e A =
    let w = v ⊕ whole 16 in
    let s : exact_cosine v ≈ exact_sine w = quarter-further v in
    let c : neg (exact_sine v) ≈ exact_cosine w = ≈-sym (cosine-further v) in
    record {
      sine = λ u. within-≈ (≈-trans (quarter-further (u ⊕ v)) (same-sine ((u ⊕ v) ⊕ whole 16) (u ⊕ w) (regroup u v (whole 16)))) (≈-trans (to-sine (exact_sine u) (exact_cosine u) (exact_sine v) (exact_cosine v)) (⊕-cong (⊗-cong (≈-refl (exact_sine u)) c) (⊗-cong (≈-refl (exact_cosine u)) s))) (A.cosine u);
      cosine = λ u. within-≈ (≈-trans (≈-sym (cosine-further (u ⊕ v))) (same-cosine ((u ⊕ v) ⊕ whole 16) (u ⊕ w) (regroup u v (whole 16)))) (≈-trans (to-cosine (exact_sine u) (exact_cosine u) (exact_sine v) (exact_cosine v)) (⊕-cong (⊗-cong (≈-refl (exact_cosine u)) c) (neg_cong (⊗-cong (≈-refl (exact_sine u)) s)))) (within-neg (A.sine u));
    }

one_more : (v : Fraction) (m : ℕ) → (v ⊕ whole 16 ⊗ whole m) ⊕ whole 16 ≈ v ⊕ whole 16 ⊗ whole (suc m)
unfolding same
one_more v m =
    let e : whole m ⊕ whole 1 ≈ whole (suc m) = record { eq = omega native.Mathlib.Omega.arith } in
    ≈-trans (ring (free v ∷ free (whole m) ∷ []) ((var 0 :+ con (whole 16) :* var 1) :+ con (whole 16)) (var 0 :+ con (whole 16) :* (var 1 :+ con (whole 1))) tt) (⊕-cong (≈-refl v) (⊗-cong (≈-refl (whole 16)) e))

none : (v : Fraction) → v ≈ v ⊕ whole 16 ⊗ whole 0
unfolding same
none v = ring (free v ∷ []) (var 0) (var 0 :+ con (whole 16) :* con (whole 0)) tt

adds-quarters : (v e : Fraction) (m : ℕ) → Adds v e → Adds (v ⊕ whole 16 ⊗ whole m) e
adds-quarters v e zero A = adds-≈ v (v ⊕ whole 16 ⊗ whole 0) e (none v) A
adds-quarters v e (suc m) A = adds-≈ ((v ⊕ whole 16 ⊗ whole m) ⊕ whole 16) (v ⊕ whole 16 ⊗ whole (suc m)) e (one_more v m) (adds-quarter (v ⊕ whole 16 ⊗ whole m) e (adds-quarters v e m A))

-- ---- every angle
back : (t q : Fraction) → (t ⊖ q) ⊕ q ≈ t
unfolding same
back t q = ring (free t ∷ free q ∷ []) ((var 0 :- var 1) :+ var 1) (var 0) tt

adds : (v : Fraction) → Adds v (tiny 61)
adds v =
    let m = nearest v in
    let n = turns v in
    let r = left v m n in
    let A : Adds (turns_on v n) (tiny 61) = adds-≈ (r ⊕ whole 16 ⊗ whole m) (turns_on v n) (tiny 61) (back (turns_on v n) (whole 16 ⊗ whole m)) (adds-quarters r (tiny 61) m (adds-eight r (nearest-eight (rounds v)))) in
    adds_as (turns_on v n) v (tiny 61) (λ u. ≈-trans (same-sine (u ⊕ turns_on v n) (turns_on (u ⊕ v) n) (≈-sym (regroup u v (whole 64 ⊗ whole n)))) (turns-sine (u ⊕ v) n)) (λ u. ≈-trans (same-cosine (u ⊕ turns_on v n) (turns_on (u ⊕ v) n) (≈-sym (regroup u v (whole 64 ⊗ whole n)))) (turns-cosine (u ⊕ v) n)) (turns-sine v n) (turns-cosine v n) A

pub sum-sine : SumSine
sum-sine u v = (adds v).sine u

pub sum-cosine : SumCosine
sum-cosine u v = (adds v).cosine u
