-- The fractions are an ordered commutative ring up to ≈.
use Rattle.std.proofs.Common.{◌≡◌, ℕ, ◌+◌, ◌-◌, ◌*◌, ◌<◌, ◌≤◌, Bool, true, false, not, T, leb, ◌⊎◌, sym, refl, ap, ◌∙◌, subst, subst₂, inl, inr, le_of_eq, mul-le-mul_right, le_of_mul-le-mul_right, arith, leb→le, pow_mono}
use native.Mathlib.Nat.{le_dest}
use native.Mathlib.Decide.{dec_le}
use lib.Dec.{nleb→lt}
use lib.Ieee.Fits.{and_l, and_r}
use Rattle.exact.specs.Fraction.{Fraction, ◌⊑◌, ◌≈◌, ◌⊕◌, ◌⊗◌, ◌⊖◌, neg, whole, tiny, Size, Within, abs, leq, size_test, within_test}

-- ---- ⊑ is a preorder, ≈ its equality
core-trans : (ap am ad bp bm bd cp cm cd : ℕ) → 0 < bd → ap * bd + bm * ad ≤ bp * ad + am * bd → bp * cd + cm * bd ≤ cp * bd + bm * cd → ap * cd + cm * ad ≤ cp * ad + am * cd
core-trans ap am ad bp bm bd cp cm cd B h k =
    le_of_mul-le-mul_right (omega (arith, mul-le-mul_right cd h, mul-le-mul_right ad k)) B

pub ⊑_trans : {a b c : Fraction} → a ⊑ b → b ⊑ c → a ⊑ c
⊑_trans {a} {b} {c} h k = record { le = core-trans a.plus a.minus a.den b.plus b.minus b.den c.plus c.minus c.den b.ok h.le k.le }

pub ≈→⊑ : {a b : Fraction} → a ≈ b → a ⊑ b
≈→⊑ {a} {b} h = record { le = le_of_eq h.eq }

pub ≈-sym : {a b : Fraction} → a ≈ b → b ≈ a
≈-sym {a} {b} h = record { eq = omega (arith, h.eq) }

pub ≈→⊒ : {a b : Fraction} → a ≈ b → b ⊑ a
≈→⊒ h = ≈→⊑ (≈-sym h)

pub ⊑-antisym : {a b : Fraction} → a ⊑ b → b ⊑ a → a ≈ b
⊑-antisym {a} {b} h k = record { eq = omega (arith, h.le, k.le) }

pub ≈-refl : (a : Fraction) → a ≈ a
≈-refl a = record { eq = refl }

pub ⊑_refl : (a : Fraction) → a ⊑ a
⊑_refl a = ≈→⊑ (≈-refl a)

pub ≈-trans : {a b c : Fraction} → a ≈ b → b ≈ c → a ≈ c
≈-trans h k = ⊑-antisym (⊑_trans (≈→⊑ h) (≈→⊑ k)) (⊑_trans (≈→⊒ k) (≈→⊒ h))

-- closed fractions: `by-test tt` under `unfolding leq`
pub by-test : {a b : Fraction} → T (leq a b) → a ⊑ b
unfolding leq
by-test {a} {b} t = record { le = leb→le (a.plus * b.den + b.minus * a.den) (b.plus * a.den + a.minus * b.den) t }

-- same parts
pub parts : {x y : Fraction} → x.plus ≡ y.plus → x.minus ≡ y.minus → x.den ≡ y.den → x ≈ y
parts {x} {y} p q r = record { eq = ap (λ d. x.plus * d + y.minus * x.den) (sym r) ∙ (ap (λ d. d * x.den + y.minus * x.den) p ∙ ap (λ d. y.plus * x.den + d * x.den) (sym q)) ∙ ap (λ d. y.plus * x.den + x.minus * d) r }

pub scaled : {x y : Fraction} (k : ℕ) → y.plus ≡ k * x.plus → y.minus ≡ k * x.minus → y.den ≡ k * x.den → x ≈ y
scaled {x} {y} k p q r =
    record {
      eq =
          (let e : x.plus * (k * x.den) + (k * x.minus) * x.den ≡ (k * x.plus) * x.den + x.minus * (k * x.den) = omega arith in
          rw (p, q, r) e);
    }

pub ≡-≈ : {a b : Fraction} → a ≡ b → a ≈ b
≡-≈ {a} e = subst (λ z. a ≈ z) e (≈-refl a)

pub not-⊑ : {a b : Fraction} → ¬ (a ⊑ b) → b ⊑ a
not-⊑ {a} {b} h = elim (dec_le (b.plus * a.den + a.minus * b.den) (a.plus * b.den + b.minus * a.den)) [ yes k ↦ record { le = k } | no k ↦ absurd (h (record { le = omega arith })) ]

pub ⊑-dec : (a b : Fraction) → Dec (a ⊑ b)
⊑-dec a b = elim (dec_le (a.plus * b.den + b.minus * a.den) (b.plus * a.den + a.minus * b.den)) [ yes h ↦ yes (record { le = h }) | no h ↦ no (λ k. h k.le) ]

pub ⊑-total : (a b : Fraction) → (a ⊑ b) ⊎ (b ⊑ a)
⊑-total a b = elim (⊑-dec a b) [ yes h ↦ inl h | no h ↦ inr (not-⊑ h) ]

pub whole-⊑ : {m n : ℕ} → m ≤ n → whole m ⊑ whole n
whole-⊑ h = record { le = omega arith }

pub tiny-pos : (h : ℕ) → whole 0 ⊑ tiny h
tiny-pos h = record { le = omega arith }

pub tiny-mono : (i h : ℕ) → i ≤ h → tiny h ⊑ tiny i
tiny-mono i h l = record { le = omega (arith, pow_mono l) }

-- ---- sums
+right : {a b : Fraction} (c : Fraction) → a ⊑ b → a ⊕ c ⊑ b ⊕ c
+right {a} {b} c h = record { le = omega (arith, mul-le-mul_right (c.den * c.den) h.le) }

pub ⊕-comm : (a b : Fraction) → a ⊕ b ≈ b ⊕ a
⊕-comm a b = record { eq = omega arith }

pub ⊕-assoc : (a b c : Fraction) → (a ⊕ b) ⊕ c ≈ a ⊕ (b ⊕ c)
⊕-assoc a b c = record { eq = omega arith }

pub ⊕-mono : {a b c d : Fraction} → a ⊑ b → c ⊑ d → a ⊕ c ⊑ b ⊕ d
⊕-mono {a} {b} {c} {d} h k = ⊑_trans (+right c h) (⊑_trans (≈→⊑ (⊕-comm b c)) (⊑_trans (+right b k) (≈→⊑ (⊕-comm d b))))

pub ⊕-cong : {a b c d : Fraction} → a ≈ b → c ≈ d → a ⊕ c ≈ b ⊕ d
⊕-cong h k = ⊑-antisym (⊕-mono (≈→⊑ h) (≈→⊑ k)) (⊕-mono (≈→⊒ h) (≈→⊒ k))

pub ⊕-zero : (a : Fraction) → a ⊕ whole 0 ≈ a
⊕-zero a = record { eq = omega arith }

pub neg-mono : {a b : Fraction} → a ⊑ b → neg b ⊑ neg a
neg-mono {a} {b} h = record { le = omega (arith, h.le) }

pub neg_cong : {a b : Fraction} → a ≈ b → neg a ≈ neg b
neg_cong h = ⊑-antisym (neg-mono (≈→⊒ h)) (neg-mono (≈→⊑ h))

pub ⊕-neg : (a : Fraction) → a ⊕ neg a ≈ whole 0
⊕-neg a = record { eq = omega arith }

-- ---- products
pub ⊗-comm : (a b : Fraction) → a ⊗ b ≈ b ⊗ a
⊗-comm a b = record { eq = omega arith }

pub ⊗-assoc : (a b c : Fraction) → (a ⊗ b) ⊗ c ≈ a ⊗ (b ⊗ c)
⊗-assoc a b c = record { eq = omega arith }

pub ⊗-one : (a : Fraction) → a ⊗ whole 1 ≈ a
⊗-one a = record { eq = omega arith }

pub distrib : (a b c : Fraction) → (a ⊕ b) ⊗ c ≈ a ⊗ c ⊕ b ⊗ c
distrib a b c = scaled c.den (omega arith) (omega arith) (omega arith)

pub ⊗-⊕ : (x y z : Fraction) → x ⊗ (y ⊕ z) ≈ x ⊗ y ⊕ x ⊗ z
⊗-⊕ x y z = scaled x.den (omega arith) (omega arith) (omega arith)

pub zero-⊕ : (x : Fraction) → whole 0 ⊕ x ≈ x
zero-⊕ x = parts (omega arith) (omega arith) (omega arith)

pub one-⊗ : (x : Fraction) → whole 1 ⊗ x ≈ x
one-⊗ x = parts (omega arith) (omega arith) (omega arith)

pub zero-⊗ : (x : Fraction) → whole 0 ⊗ x ≈ whole 0
zero-⊗ x = record { eq = omega arith }

pub neg-⊗ : (x y : Fraction) → neg (x ⊗ y) ≈ neg x ⊗ y
neg-⊗ x y = parts (omega arith) (omega arith) refl

core-mul : (ap am ad bp bm bd cp cm cd k : ℕ) → cm + k ≡ cp → (ap * bd + bm * ad) * (k * cd) ≤ (bp * ad + am * bd) * (k * cd)
    → (ap * cp + am * cm) * (bd * cd) + (bp * cm + bm * cp) * (ad * cd) ≤ (bp * cp + bm * cm) * (ad * cd) + (ap * cm + am * cp) * (bd * cd)
core-mul ap am ad bp bm bd cp cm cd k e h = rw (← e) (omega (arith, h))

pub ⊗-mono : {a b : Fraction} (c : Fraction) → whole 0 ⊑ c → a ⊑ b → a ⊗ c ⊑ b ⊗ c
⊗-mono {a} {b} c z h =
    let q : c.minus ≤ c.plus = omega (arith, z.le) in
    let k = le_dest q in
    record { le = core-mul a.plus a.minus a.den b.plus b.minus b.den c.plus c.minus c.den k.0 k.1 (mul-le-mul_right (k.0 * c.den) h.le) }

pub ⊗-mono_right : {a b : Fraction} (c : Fraction) → whole 0 ⊑ c → a ⊑ b → c ⊗ a ⊑ c ⊗ b
⊗-mono_right {a} {b} c p h = ⊑_trans (≈→⊑ (⊗-comm c a)) (⊑_trans (⊗-mono c p h) (≈→⊑ (⊗-comm b c)))

pub ⊗-left : {a b : Fraction} (c : Fraction) → a ≈ b → a ⊗ c ≈ b ⊗ c
⊗-left {a} {b} c h = record { eq = omega (arith, ap (λ z. z * (c.plus * c.den)) h.eq, ap (λ z. z * (c.minus * c.den)) h.eq) }

pub ⊗-cong : {a b c d : Fraction} → a ≈ b → c ≈ d → a ⊗ c ≈ b ⊗ d
⊗-cong {a} {b} {c} {d} h k = ≈-trans (⊗-left c h) (≈-trans (⊗-comm b c) (≈-trans (⊗-left b k) (⊗-comm d b)))

-- ---- signs
pub nonneg : {x : Fraction} → x.minus ≤ x.plus → whole 0 ⊑ x
nonneg h = record { le = omega (arith, h) }

pub nonneg⁻ : {x : Fraction} → whole 0 ⊑ x → x.minus ≤ x.plus
nonneg⁻ h = omega (arith, h.le)

pub ⊕-nonneg : {x y : Fraction} → whole 0 ⊑ x → whole 0 ⊑ y → whole 0 ⊑ x ⊕ y
⊕-nonneg h k = ⊑_trans (≈→⊑ (≈-sym (zero-⊕ (whole 0)))) (⊕-mono h k)

prod : (a b c d : ℕ) → b ≤ a → d ≤ c → a * d + b * c ≤ a * c + b * d
prod a b c d h k =
    let e : b + (a - b) ≡ a = omega arith in
    let f : d + (c - d) ≡ c = omega arith in
    let g : (b + (a - b)) * d + b * (d + (c - d)) ≤ (b + (a - b)) * (d + (c - d)) + b * d = go b (a - b) d (c - d) in
    subst₂ (λ s t. s * d + b * t ≤ s * t + b * d) e f g
  where
    go : (b x d y : ℕ) → (b + x) * d + b * (d + y) ≤ (b + x) * (d + y) + b * d
    go b x d y = omega arith

pub ⊗-nonneg : {x y : Fraction} → whole 0 ⊑ x → whole 0 ⊑ y → whole 0 ⊑ x ⊗ y
⊗-nonneg {x} {y} h k = nonneg (prod x.plus x.minus y.plus y.minus (nonneg⁻ h) (nonneg⁻ k))

square : (a b : ℕ) → a * b + b * a ≤ a * a + b * b
square a b = elim (dec_le a b) [ yes h ↦ omega (arith, prod b a b a h h) | no h ↦ omega (arith, prod a b a b (omega arith) (omega arith)) ]

pub ⊗-square : (x : Fraction) → whole 0 ⊑ x ⊗ x
⊗-square x = nonneg (square x.plus x.minus)

pub diff : {x y : Fraction} → whole 0 ⊑ y ⊖ x → x ⊑ y
diff h = record { le = omega (arith, h.le) }

pub diff⁻ : {x y : Fraction} → x ⊑ y → whole 0 ⊑ y ⊖ x
diff⁻ h = record { le = omega (arith, h.le) }

pub ⊑-abs : (x : Fraction) → x ⊑ abs x
⊑-abs x = record { le = omega (arith, mul-le-mul_right x.den (go x.plus x.minus)) }
  where
    go : (u d : ℕ) → u ≤ (u - d) + (d - u) + d
    go u d = omega arith

pub neg-⊑-abs : (x : Fraction) → neg x ⊑ abs x
neg-⊑-abs x = record { le = omega (arith, mul-le-mul_right x.den (go x.plus x.minus)) }
  where
    go : (u d : ℕ) → d ≤ (u - d) + (d - u) + u
    go u d = omega arith

-- ---- sizes
pub size-neg : {a c : Fraction} → Size a c → Size (neg a) c
size-neg {a} {c} h = record { below = record { le = omega (arith, h.above.le) }; above = record { le = omega (arith, h.below.le) } }

neg-below : {a c : Fraction} → neg a ⊑ c → neg c ⊑ a
neg-below {a} {c} h = record { le = omega (arith, h.le) }

pub nonneg-size : {a c : Fraction} → Size a c → whole 0 ⊑ c
nonneg-size {a} {c} h =
    let q : neg c ⊑ c = ⊑_trans h.above h.below in
    let r : c.minus ≤ c.plus = le_of_mul-le-mul_right (omega (arith, q.le)) c.ok in
    record { le = omega (arith, r) }

mul-below-pos : {a b c d : Fraction} → whole 0 ⊑ b → whole 0 ⊑ c → a ⊑ c → b ⊑ d → a ⊗ b ⊑ c ⊗ d
mul-below-pos {a} {b} {c} {d} B C h k = ⊑_trans (⊗-mono b B h) (⊑_trans (≈→⊑ (⊗-comm c b)) (⊑_trans (⊗-mono c C k) (≈→⊑ (⊗-comm d c))))

neg-neg-mul : (a b : Fraction) → a ⊗ b ≈ neg a ⊗ neg b
neg-neg-mul a b = record { eq = omega arith }

pub signs : (b : Fraction) → (whole 0 ⊑ b) ⊎ (whole 0 ⊑ neg b)
signs b = go (leb b.minus b.plus) (leb→le b.minus b.plus) (nleb→lt b.minus b.plus)
  where
    go : (t : Bool) → (T t → b.minus ≤ b.plus) → (T (not t) → b.plus < b.minus) → (whole 0 ⊑ b) ⊎ (whole 0 ⊑ neg b)
    go true f g = let q = f tt in inl (record { le = omega arith })
    go false f g = let q = g tt in inr (record { le = omega arith })

mul-below : {a b c d : Fraction} → Size a c → Size b d → a ⊗ b ⊑ c ⊗ d
mul-below {a} {b} {c} {d} h k =
    elim (signs b) [
      | inl B ↦ mul-below-pos B (nonneg-size h) h.below k.below
      | inr B ↦ ⊑_trans (≈→⊑ (neg-neg-mul a b)) (mul-below-pos B (nonneg-size h) (size-neg h).below (size-neg k).below)
    ]

pub size-⊗ : {a b c d : Fraction} → Size a c → Size b d → Size (a ⊗ b) (c ⊗ d)
size-⊗ {a} {b} {c} {d} h k = record { below = mul-below h k; above = neg-below (⊑_trans (≈→⊑ (neg-⊗ a b)) (mul-below (size-neg h) k)) }

pub size-⊕ : {a b c d : Fraction} → Size a c → Size b d → Size (a ⊕ b) (c ⊕ d)
size-⊕ {a} {b} {c} {d} h k = record { below = ⊕-mono h.below k.below; above = ⊑_trans (≈→⊑ (neg_sum c d)) (⊕-mono h.above k.above) }
  where
    neg_sum : (c d : Fraction) → neg (c ⊕ d) ≈ neg c ⊕ neg d
    neg_sum c d = ≈-refl (neg (c ⊕ d))

pub size-⊑ : {a c d : Fraction} → c ⊑ d → Size a c → Size a d
size-⊑ k h = record { below = ⊑_trans h.below k; above = ⊑_trans (neg-mono k) h.above }

pub size-≈ : {a b c : Fraction} → a ≈ b → Size a c → Size b c
size-≈ e h = record { below = ⊑_trans (≈→⊒ e) h.below; above = ⊑_trans h.above (≈→⊑ e) }

pub abs-size : (a : Fraction) → Size a (abs a)
abs-size a = record { below = ⊑-abs a; above = neg-below (neg-⊑-abs a) }

pub abs-below : (a c : Fraction) → Size a c → abs a ⊑ c
abs-below a c h = elim (signs a) [ inl p ↦ ⊑_trans (record { le = omega (arith, mul-le-mul_right a.den (nonneg⁻ p), abs-at-plus a p) }) h.below | inr p ↦ ⊑_trans (record { le = omega (arith, abs-at-minus a p) }) (size-neg h).below ]
  where
    abs-at-plus : (a : Fraction) → whole 0 ⊑ a → (a.plus - a.minus + (a.minus - a.plus)) * a.den + a.minus * a.den ≤ a.plus * a.den
    abs-at-plus a p = let q = nonneg⁻ p in let e : a.plus - a.minus + (a.minus - a.plus) + a.minus ≡ a.plus = omega arith in omega (arith, ap (λ z. z * a.den) e)

    abs-at-minus : (a : Fraction) → whole 0 ⊑ neg a → (a.plus - a.minus + (a.minus - a.plus)) * a.den + a.plus * a.den ≤ a.minus * a.den
    abs-at-minus a p = let q : a.plus ≤ a.minus = nonneg⁻ p in let e : a.plus - a.minus + (a.minus - a.plus) + a.plus ≡ a.minus = omega arith in omega (arith, ap (λ z. z * a.den) e)

-- closed fractions: `size-by-test tt` under `unfolding size_test`
pub size-by-test : (a c : Fraction) → T (size_test a c) → Size a c
unfolding size_test
size-by-test a c t = record { below = by-test (and_r (leq (neg c) a) (leq a c) t); above = by-test (and_l (leq (neg c) a) (leq a c) t) }

-- ---- distances
pub within-by-test : (a b c : Fraction) → T (within_test a b c) → Within a b c
unfolding within_test
within-by-test a b c t = record { below = by-test (and_l (leq a (b ⊕ c)) (leq b (a ⊕ c)) t); above = by-test (and_r (leq a (b ⊕ c)) (leq b (a ⊕ c)) t) }

pub within-neg : {a b e : Fraction} → Within a b e → Within (neg a) (neg b) e
within-neg {a} {b} {e} h = record { below = record { le = omega (arith, h.above.le) }; above = record { le = omega (arith, h.below.le) } }

pub within-sym : {a b c : Fraction} → Within a b c → Within b a c
within-sym h = record { below = h.above; above = h.below }

pub within-⊑ : {a b c d : Fraction} → c ⊑ d → Within a b c → Within a b d
within-⊑ {a} {b} k h = record { below = ⊑_trans h.below (⊕-mono (⊑_refl b) k); above = ⊑_trans h.above (⊕-mono (⊑_refl a) k) }

hop : (a b c x y : Fraction) → a ⊑ b ⊕ x → b ⊑ c ⊕ y → a ⊑ c ⊕ (x ⊕ y)
hop a b c x y h k = ⊑_trans h (⊑_trans (⊕-mono k (⊑_refl x)) (⊑_trans (≈→⊑ (⊕-assoc c y x)) (⊕-mono (⊑_refl c) (≈→⊑ (⊕-comm y x)))))

pub triangle : {a b c x y : Fraction} → Within a b x → Within b c y → Within a c (x ⊕ y)
triangle {a} {b} {c} {x} {y} h k = record { below = hop a b c x y h.below k.below; above = ⊑_trans (hop c b a y x k.above h.above) (⊕-mono (⊑_refl a) (≈→⊑ (⊕-comm y x))) }

pub four : (a b c d : Fraction) → (a ⊕ b) ⊕ (c ⊕ d) ≈ (a ⊕ c) ⊕ (b ⊕ d)
four a b c d = parts (omega arith) (omega arith) (omega arith)

pub within-⊕ : {a b c d x y : Fraction} → Within a b x → Within c d y → Within (a ⊕ c) (b ⊕ d) (x ⊕ y)
within-⊕ {a} {b} {c} {d} {x} {y} h k = record {
  below = ⊑_trans (⊕-mono h.below k.below) (≈→⊑ (four b x d y));
  above = ⊑_trans (⊕-mono h.above k.above) (≈→⊑ (four a x c y));
}

-- the same added to both
pub within-left : {a b e : Fraction} (c : Fraction) → Within a b e → Within (c ⊕ a) (c ⊕ b) e
within-left {a} {b} {e} c h = record { below = ⊑_trans (⊕-mono (⊑_refl c) h.below) (≈→⊒ (⊕-assoc c b e)); above = ⊑_trans (⊕-mono (⊑_refl c) h.above) (≈→⊒ (⊕-assoc c a e)) }

pub within-refl : {a b : Fraction} → a ≈ b → Within a b (whole 0)
within-refl {a} {b} e = record { below = ⊑_trans (≈→⊑ e) (≈→⊒ (⊕-zero b)); above = ⊑_trans (≈→⊒ e) (≈→⊒ (⊕-zero a)) }

-- b + (a - b) = a
pub gap : (a b : Fraction) → b ⊕ (a ⊖ b) ≈ a
gap a b = record { eq = omega arith }

pub within→size : {a b c : Fraction} → Within a b c → Size (a ⊖ b) c
within→size {a} {b} {c} h = record { below = ⊑_trans (⊕-mono h.below (⊑_refl (neg b))) (≈→⊑ (off b c)); above = ⊑_trans (≈→⊒ (under a c)) (⊕-mono (⊑_refl a) (neg-mono h.above)) }
  where
    off : (b c : Fraction) → (b ⊕ c) ⊕ neg b ≈ c
    off b c = record { eq = omega arith }

    under : (a c : Fraction) → a ⊕ neg (a ⊕ c) ≈ neg c
    under a c = record { eq = omega arith }

pub size→within : {a b c : Fraction} → Size (a ⊖ b) c → Within a b c
size→within {a} {b} {c} h = record { below = ⊑_trans (≈→⊒ (gap a b)) (⊕-mono (⊑_refl b) h.below); above = ⊑_trans (≈→⊒ (back a b)) (⊕-mono (⊑_refl a) (neg-flip h.above)) }
  where
    back : (a b : Fraction) → a ⊕ neg (a ⊖ b) ≈ b
    back a b = record { eq = omega arith }

    neg-flip : {a c : Fraction} → neg c ⊑ a → neg a ⊑ c
    neg-flip {a} {c} h = record { le = omega (arith, h.le) }

-- a * b and a' * b
pub within-mul-right : {a a' x b B : Fraction} → Within a a' x → Size b B → Within (a ⊗ b) (a' ⊗ b) (x ⊗ B)
within-mul-right {a} {a'} {x} {b} {B} h k =
    let s = size-⊗ (within→size h) k in
    let e : a' ⊗ b ⊕ (a ⊖ a') ⊗ b ≈ a ⊗ b = ≈-trans (≈-sym (distrib a' (a ⊖ a') b)) (⊗-left b (gap a a')) in
    size→within (record {
      below = ⊑_trans (⊑_trans (⊕-mono (≈→⊒ e) (⊑_refl (neg (a' ⊗ b)))) (≈→⊑ (off (a' ⊗ b) ((a ⊖ a') ⊗ b)))) s.below;
      above = ⊑_trans s.above (⊑_trans (≈→⊒ (off (a' ⊗ b) ((a ⊖ a') ⊗ b))) (⊕-mono (≈→⊑ e) (⊑_refl (neg (a' ⊗ b)))));
    })
  where
    off : (b c : Fraction) → (b ⊕ c) ⊕ neg b ≈ c
    off b c = record { eq = omega arith }

pub within-≈ : {a b a' b' c : Fraction} → a ≈ a' → b ≈ b' → Within a b c → Within a' b' c
within-≈ {a} {b} {a'} {b'} {c} e f h = record { below = ⊑_trans (≈→⊒ e) (⊑_trans h.below (⊕-mono (≈→⊑ f) (⊑_refl c))); above = ⊑_trans (≈→⊒ f) (⊑_trans h.above (⊕-mono (≈→⊑ e) (⊑_refl c))) }

pub within-⊗ : {a a' b b' x y A B : Fraction} → Within a a' x → Within b b' y → Size a' A → Size b B → Within (a ⊗ b) (a' ⊗ b') (x ⊗ B ⊕ y ⊗ A)
within-⊗ {a} {a'} {b} {b'} h k s t = triangle (within-mul-right h t) (within-≈ (⊗-comm b a') (⊗-comm b' a') (within-mul-right k s))

-- a is in size at most the size of b and the distance
pub size-near : {a b c d : Fraction} → Within a b c → Size b d → Size a (d ⊕ c)
size-near {a} {b} {c} {d} h s = record { below = ⊑_trans h.below (⊕-mono s.below (⊑_refl c)); above = neg-below (⊑_trans (⊑_trans (≈→⊒ (flip a c)) (neg-anti-then a b c h)) (⊕-mono (size-neg s).below (⊑_refl c))) }
  where
    flip : (a c : Fraction) → neg (a ⊕ c) ⊕ c ≈ neg a
    flip a c = record { eq = omega arith }

    neg-anti-then : (a b c : Fraction) → Within a b c → neg (a ⊕ c) ⊕ c ⊑ neg b ⊕ c
    neg-anti-then a b c h = ⊕-mono (neg-mono h.above) (⊑_refl c)
