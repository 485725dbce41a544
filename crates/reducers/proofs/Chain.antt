-- The errors of the chain of operations, over fractions alone.
use Rattle.std.proofs.Common.{[], ◌∷◌}
use Rattle.exact.specs.Fraction.{Fraction, ◌≈◌, ◌⊕◌, ◌⊗◌, ◌⊖◌, neg, Size, Within}
use Rattle.exact.proofs.Order.{within-left, ≈-sym, ≈-refl, ≈-trans, ⊕-cong, ⊗-comm, within-≈, within-mul-right, triangle, ⊕-comm}
use Rattle.exact.proofs.Poly.{var, ◌:+◌, ◌:*◌, ◌:-◌, same, free}
use Rattle.exact.proofs.Cert.{ring}

pub drop : {a b e : Fraction} (c : Fraction) → Within a b e → Within (a ⊖ c) (b ⊖ c) e
drop {a} {b} {e} c h = within-≈ (⊕-comm (neg c) a) (⊕-comm (neg c) b) (within-left (neg c) h)

-- all in one: hi + (q1 + (q2 + q3)) is what remains
gather : (kh kl hi q1 q2 q3 : Fraction) → (kh ⊕ kl) ⊕ (q3 ⊕ (q2 ⊕ ((q1 ⊕ (hi ⊖ kh)) ⊖ kl))) ≈ hi ⊕ q1 ⊕ q2 ⊕ q3
unfolding same
gather kh kl hi q1 q2 q3 =
    ring (free kh ∷ free kl ∷ free hi ∷ free q1 ∷ free q2 ∷ free q3 ∷ [])
    ((var 0 :+ var 1) :+ (var 5 :+ (var 4 :+ ((var 3 :+ (var 2 :- var 0)) :- var 1))))
    (var 2 :+ var 3 :+ var 4 :+ var 5)
    tt

factor : (X a b c d : Fraction) → X ⊗ a ⊕ X ⊗ b ⊕ X ⊗ c ⊕ X ⊗ d ≈ X ⊗ (a ⊕ b ⊕ c ⊕ d)
unfolding same
factor X a b c d = ring (free X ∷ free a ∷ free b ∷ free c ∷ free d ∷ []) (var 0 :* var 1 :+ var 0 :* var 2 :+ var 0 :* var 3 :+ var 0 :* var 4) (var 0 :* (var 1 :+ var 2 :+ var 3 :+ var 4)) tt

module _ (X c0 c1 c2 c3 kh kl hi fr q1 lo y0 q2 y1 q3 y2 e : Fraction) (hi-is : hi ≈ X ⊗ c0) (fr-is : fr ≈ hi ⊖ kh) (q1-is : q1 ≈ X ⊗ c1) (lo-near : Within lo (q1 ⊕ fr) e) (y0-is : y0 ≈ lo ⊖ kl) (q2-is : q2 ≈ X ⊗ c2) (y1-near : Within y1 (q2 ⊕ y0) e) (q3-is : q3 ≈ X ⊗ c3) (y2-near : Within y2 (q3 ⊕ y1) e) where
  pub chain : Within ((kh ⊕ kl) ⊕ y2) (X ⊗ (c0 ⊕ c1 ⊕ c2 ⊕ c3)) (e ⊕ (e ⊕ e))
  chain =
      let a : Within (lo ⊖ kl) ((q1 ⊕ (hi ⊖ kh)) ⊖ kl) e = within-≈ (≈-refl (lo ⊖ kl)) (⊕-cong (⊕-cong (≈-refl q1) fr-is) (≈-refl (neg kl))) (drop kl lo-near) in
      let b : Within y0 ((q1 ⊕ (hi ⊖ kh)) ⊖ kl) e = within-≈ (≈-sym y0-is) (≈-refl ((q1 ⊕ (hi ⊖ kh)) ⊖ kl)) a in
      let c : Within y1 (q2 ⊕ ((q1 ⊕ (hi ⊖ kh)) ⊖ kl)) (e ⊕ e) = triangle y1-near (within-left q2 b) in
      let d : Within y2 (q3 ⊕ (q2 ⊕ ((q1 ⊕ (hi ⊖ kh)) ⊖ kl))) (e ⊕ (e ⊕ e)) = triangle y2-near (within-left q3 c) in
      within-≈ (≈-refl ((kh ⊕ kl) ⊕ y2)) (≈-trans (gather kh kl hi q1 q2 q3) (≈-trans (⊕-cong (⊕-cong (⊕-cong hi-is q1-is) q2-is) q3-is) (factor X c0 c1 c2 c3))) (within-left (kh ⊕ kl) d)

-- with two constants after the first, and no second whole part
gather-small : (k p q1 q2 : Fraction) → k ⊕ (q2 ⊕ (q1 ⊕ (p ⊖ k))) ≈ p ⊕ q1 ⊕ q2
unfolding same
gather-small k p q1 q2 = ring (free k ∷ free p ∷ free q1 ∷ free q2 ∷ []) (var 0 :+ (var 3 :+ (var 2 :+ (var 1 :- var 0)))) (var 1 :+ var 2 :+ var 3) tt

factor-small : (X a b c : Fraction) → X ⊗ a ⊕ X ⊗ b ⊕ X ⊗ c ≈ X ⊗ (a ⊕ b ⊕ c)
unfolding same
factor-small X a b c = ring (free X ∷ free a ∷ free b ∷ free c ∷ []) (var 0 :* var 1 :+ var 0 :* var 2 :+ var 0 :* var 3) (var 0 :* (var 1 :+ var 2 :+ var 3)) tt

module _ (X c0 c1 c2 k p y0 q1 y1 q2 y2 e : Fraction) (p-is : p ≈ X ⊗ c0) (y0-is : y0 ≈ p ⊖ k) (q1-is : q1 ≈ X ⊗ c1) (y1-near : Within y1 (q1 ⊕ y0) e) (q2-is : q2 ≈ X ⊗ c2) (y2-near : Within y2 (q2 ⊕ y1) e) where
  pub chain-small : Within (k ⊕ y2) (X ⊗ (c0 ⊕ c1 ⊕ c2)) (e ⊕ e)
  chain-small =
      let c : Within y1 (q1 ⊕ (p ⊖ k)) e = within-≈ (≈-refl y1) (⊕-cong (≈-refl q1) y0-is) y1-near in
      let d : Within y2 (q2 ⊕ (q1 ⊕ (p ⊖ k))) (e ⊕ e) = triangle y2-near (within-left q2 c) in
      within-≈ (≈-refl (k ⊕ y2)) (≈-trans (gather-small k p q1 q2) (≈-trans (⊕-cong (⊕-cong p-is q1-is) q2-is) (factor-small X c0 c1 c2))) (within-left k d)

-- ---- the skipped constants s, and the rest of the sum
split : (X s c : Fraction) → X ⊗ c ⊕ X ⊗ s ≈ (s ⊕ c) ⊗ X
unfolding same
split X s c = ring (free X ∷ free s ∷ free c ∷ []) (var 0 :* var 2 :+ var 0 :* var 1) ((var 1 :+ var 2) :* var 0) tt

-- v is within d of X c, and X s is m: v + m is within d + t B of X r
pub tailed : (X s c r v m d t B : Fraction) → Within v (X ⊗ c) d → X ⊗ s ≈ m → Within (s ⊕ c) r t → Size X B → Within (v ⊕ m) (X ⊗ r) (d ⊕ t ⊗ B)
tailed X s c r v m d t B h e k z =
    let a : Within (v ⊕ X ⊗ s) (X ⊗ c ⊕ X ⊗ s) d = within-≈ (⊕-comm (X ⊗ s) v) (⊕-comm (X ⊗ s) (X ⊗ c)) (within-left (X ⊗ s) h) in
    let b : Within (v ⊕ m) ((s ⊕ c) ⊗ X) d = within-≈ (⊕-cong (≈-refl v) e) (split X s c) a in
    let g : Within ((s ⊕ c) ⊗ X) (r ⊗ X) (t ⊗ B) = within-mul-right k z in
    within-≈ (≈-refl (v ⊕ m)) (⊗-comm r X) (triangle b g)
