-- Rounding by a part of the answer's size, and narrowing a tangent.
use Rattle.std.proofs.Common.{◌≡◌, ℕ, suc, ◌+◌, ◌-◌, ◌*◌, ◌/◌, ◌^◌, ◌<◌, ◌≤◌, true, false, T, ◌⊎◌, [], ◌∷◌, sym, ap, ◌∙◌, inl, inr, zero-le, le_trans, le_of_eq, le_refl, mul-le-mul_right, pow-suc, le-div_iff_mul-le, arith, pow-add}
use native.Mathlib.Decide.{dec_le}
use lib.Ieee.{Float, Format, nan, inf, fin, binary32, prec, low, up, down, size}
use lib.Ieee.Digits.{size_reaches}
use lib.Ieee.Fits.{down_pos}
use lib.Ieee.Scale.{finite}
use Rattle.exact.specs.Fraction.{Fraction, ◌≈◌, ◌⊑◌, ◌⊕◌, ◌⊗◌, ◌⊖◌, neg, whole, tiny, abs, Size, Within, size_test}
use Rattle.exact.specs.Value.{value_of, Good}
use Rattle.exact.specs.Rounded.{Rounded, in_range, half_spacing}
use Rattle.exact.proofs.Order.{≈-sym, ≈-trans, ≈→⊑, ⊑_refl, ⊑_trans, ⊑-antisym, ⊑-abs, neg-⊑-abs, abs-size, abs-below, signs, nonneg, nonneg⁻, ⊕-zero, ⊕-mono, ⊗-nonneg, tiny-pos, ≈→⊒, size-by-test, ⊗-cong, neg-⊗, size-⊑, size-≈, size-⊕, size-⊗, size-neg, size-near, size→within, within→size, within-⊑, within-sym}
use Rattle.exact.proofs.Poly.{var, con, ◌:+◌, ◌:*◌, ◌:-◌, free, same, le, hyp, num, ◌+c◌, ◌*c◌}
use Rattle.exact.proofs.Cert.{ring, prove}
use Rattle.exact.proofs.Rounding.{nearest_in_rounded}
use Rattle.exact.proofs.Spacing.{rounded-spaced}
use Rattle.formulas.specs.Words.{narrowed}

-- ---- half a spacing is at most 2 ^ -prec of the size, but for subnormals
wide : (g A D P h : ℕ) → g * (P * D) ≤ A * h → g * (D * P * h) + ((A * 0 + 0 * 1) * h + 0 * (D * P)) * h ≤ ((A * 1 + 0 * 0) * h + 1 * (D * P)) * h + 0 * (D * P * h)
wide g A D P h k = omega (arith, mul-le-mul_right h k)

narrow : (A D P h : ℕ) → 1 * (D * P * h) + ((A * 0 + 0 * 1) * h + 0 * (D * P)) * h ≤ ((A * 1 + 0 * 0) * h + 1 * (D * P)) * h + 0 * (D * P * h)
narrow A D P h = omega arith

-- n units and s digits, of which p are kept
kept : (n p s N D l : ℕ) → p < s → 2 ^ (s - 1) ≤ n → n * D ≤ N * 2 ^ l → 2 ^ (s - p) * (2 ^ p * D) ≤ N * 2 ^ suc l
kept n p s N D l h a b =
    let e : 2 ^ (s - p) * 2 ^ p ≡ 2 ^ (s - 1) * 2 = sym (pow-add 2 (s - p) p) ∙ ap (λ z. 2 ^ z) (once s h) ∙ pow-suc 2 (s - 1) in
    go (2 ^ (s - p)) (2 ^ p) (2 ^ (s - 1)) (2 ^ l) (2 ^ suc l) e (pow-suc 2 l) (mul-le-mul_right D a) b
  where
    once : (s : ℕ) → p < s → s - p + p ≡ suc (s - 1)
    once s h = omega arith

    go : (g P q L h : ℕ) → g * P ≡ q * 2 → h ≡ L * 2 → q * D ≤ n * D → n * D ≤ N * L → g * (P * D) ≤ N * h
    go g P q L h e f a b = omega (arith, ap (λ z. z * D) e, ap (λ z. N * z) f)

module _ (f : Format) (m : ℕ) (e : lib.IntN.ℤ) (A : ℕ) (is : A ≡ m * up e) where
  abbrev n : ℕ
  n = m * up e * 2 ^ low f / down e

  spaced : 2 ^ (size n - prec f) * (down e * 2 ^ prec f * 2 ^ suc (low f)) + ((A * 0 + 0 * 1) * 2 ^ suc (low f) + 0 * (down e * 2 ^ prec f)) * 2 ^ suc (low f) ≤ ((A * 1 + 0 * 0) * 2 ^ suc (low f) + 1 * (down e * 2 ^ prec f)) * 2 ^ suc (low f) + 0 * (down e * 2 ^ prec f * 2 ^ suc (low f))
  spaced =
      elim (dec_le (size n) (prec f)) [
        | yes k ↦ (let z : size n - prec f ≡ 0 = omega arith in rw z (narrow A (down e) (2 ^ prec f) (2 ^ suc (low f))))
        | no k ↦
            (let b : n * down e ≤ m * up e * 2 ^ low f = (le-div_iff_mul-le (down_pos e)).0 (le_refl n) in
            let c = kept n (prec f) (size n) (m * up e) (down e) (low f) (omega arith) (size_reaches n (size n - 1) (omega arith)) b in
            wide (2 ^ (size n - prec f)) A (down e) (2 ^ prec f) (2 ^ suc (low f)) (le_trans c (le_of_eq (ap (λ z. z * 2 ^ suc (low f)) (sym is)))))
      ]

spacing_size : (f : Format) (r : Float) → T (finite r) → half_spacing f r ⊑ abs (value_of r) ⊗ tiny (prec f) ⊕ tiny (suc (low f))
spacing_size f nan p = absurd p
spacing_size f (inf s) p = absurd p
spacing_size f (fin true m e) p = record { le = spaced f m e (0 - m * up e + (m * up e - 0)) (go (m * up e)) }
  where
    go : (n : ℕ) → 0 - n + (n - 0) ≡ n
    go n = omega arith
spacing_size f (fin false m e) p = record { le = spaced f m e (m * up e - 0 + (0 - m * up e)) (go (m * up e)) }
  where
    go : (n : ℕ) → n - 0 + (0 - n) ≡ n
    go n = omega arith

-- what is rounded is that near, at the answer
pub rounded-part : (f : Format) (r : Float) (a b : Fraction) → Rounded f r a → Size a b → T (in_range f b) → Good r a (abs (value_of r) ⊗ tiny (prec f) ⊕ tiny (suc (low f)))
rounded-part f r a b R h t = let g = rounded-spaced f r a b R h t in record { fin = g.fin; near = within-⊑ (spacing_size f r g.fin) g.near }

-- ---- absolute values
pub flipped : {a : Fraction} → whole 0 ⊑ a → neg a ⊑ a
flipped {a} p = record { le = omega (arith, mul-le-mul_right a.den (nonneg⁻ p)) }

abs_is : (a : Fraction) → (abs a ≈ a) ⊎ (abs a ≈ neg a)
abs_is a =
    elim (signs a) [
      | inl p ↦ inl (⊑-antisym (abs-below a a (record { below = ⊑_refl a; above = flipped p })) (⊑-abs a))
      | inr p ↦ inr (⊑-antisym (abs-below a (neg a) (size-neg (record { below = ⊑_refl (neg a); above = flipped p }))) (neg-⊑-abs a))
    ]

pub abs-⊗ : (a b : Fraction) → abs a ⊗ abs b ⊑ abs (a ⊗ b)
abs-⊗ a b = go (abs_is a) (abs_is b)
  where
    right : neg a ⊗ neg b ≈ a ⊗ b
    right = record { eq = omega arith }

    other : a ⊗ neg b ≈ neg (a ⊗ b)
    other = record { eq = omega arith }

    go : (abs a ≈ a) ⊎ (abs a ≈ neg a) → (abs b ≈ b) ⊎ (abs b ≈ neg b) → abs a ⊗ abs b ⊑ abs (a ⊗ b)
    go (inl d) (inl e) = ⊑_trans (≈→⊑ (⊗-cong d e)) (⊑-abs (a ⊗ b))
    go (inl d) (inr e) = ⊑_trans (≈→⊑ (≈-trans (⊗-cong d e) other)) (neg-⊑-abs (a ⊗ b))
    go (inr d) (inl e) = ⊑_trans (≈→⊑ (≈-trans (⊗-cong d e) (≈-sym (neg-⊗ a b)))) (neg-⊑-abs (a ⊗ b))
    go (inr d) (inr e) = ⊑_trans (≈→⊑ (≈-trans (⊗-cong d e) right)) (⊑-abs (a ⊗ b))

pub abs-pos : (a : Fraction) → whole 0 ⊑ abs a
abs-pos a = nonneg zero-le

-- ---- small steps
pub no_size : {x : Fraction} → x ≈ whole 0 → Size x (whole 0)
unfolding size_test
no_size e = size-≈ (≈-sym e) (size-by-test (whole 0) (whole 0) tt)

-- a + b for b at least 0
pub more : (a b : Fraction) → whole 0 ⊑ b → a ⊑ a ⊕ b
more a b h = ⊑_trans (≈→⊒ (⊕-zero a)) (⊕-mono (⊑_refl a) h)

-- a and a part of |b|
pub room_for : (a b : Fraction) (n : ℕ) → a ⊑ a ⊕ abs b ⊗ tiny n
room_for a b n = more a (abs b ⊗ tiny n) (⊗-nonneg (abs-pos b) (tiny-pos n))

-- ---- narrowing
largest : T (in_range binary32 (whole (2 ^ 121)))
unfolding size
largest = tt

parted : (a p C S : Fraction) → (p ⊗ C ⊖ S) ⊕ (a ⊖ p) ⊗ C ≈ a ⊗ C ⊖ S
unfolding same
parted a p C S = ring (free a ∷ free p ∷ free C ∷ free S ∷ []) ((var 1 :* var 2 :- var 3) :+ (var 0 :- var 1) :* var 2) (var 0 :* var 2 :- var 3) tt

-- (b / 2 ^ 24 + 2 ^ -150) k for b k at most v, and k at most 1
shrunk : (b k v : Fraction) → b ⊗ k ⊑ v → k ⊑ whole 1 → (b ⊗ tiny 24 ⊕ tiny 150) ⊗ k ⊑ v ⊗ tiny 24 ⊕ tiny 150
unfolding same
shrunk b k v h l = prove (free b ∷ free k ∷ free v ∷ []) (le (var 0 :* var 1) (var 2) ∷ le (var 1) (con (whole 1)) ∷ []) (h, (l, tt)) ((var 0 :* con (tiny 24) :+ con (tiny 150)) :* var 1) (var 2 :* con (tiny 24) :+ con (tiny 150)) (num 1 (2 ^ 24) *c hyp 0 +c num 1 (2 ^ 150) *c hyp 1) tt

-- q for the distance after narrowing, b and p for the sizes after and before, v for that of the product
settled : (q p v b h : Fraction) → q ⊑ (tiny 25 ⊕ p ⊗ tiny 36) ⊕ h → h ⊑ v ⊗ tiny 24 ⊕ tiny 150 → v ⊑ whole 1 ⊕ q → p ⊑ b ⊕ (b ⊗ tiny 24 ⊕ tiny 150) → whole 0 ⊑ b → q ⊑ tiny 23 ⊕ b ⊗ tiny 35
unfolding same
settled q p v b h h0 h1 h2 h3 h4 =
    prove (free q ∷ free p ∷ free v ∷ free b ∷ free h ∷ [])
    (le (var 0) ((con (tiny 25) :+ var 1 :* con (tiny 36)) :+ var 4) ∷ le (var 4) (var 2 :* con (tiny 24) :+ con (tiny 150)) ∷ le (var 2) (con (whole 1) :+ var 0) ∷ le (var 1) (var 3 :+ (var 3 :* con (tiny 24) :+ con (tiny 150))) ∷ le (con (whole 0)) (var 3) ∷ [])
    (h0, (h1, (h2, (h3, (h4, tt))))) (var 0) (con (tiny 23) :+ var 3 :* con (tiny 35))
    (num 16777216 16777215 *c hyp 0 +c num 16777216 16777215 *c hyp 1 +c num 1 16777215 *c hyp 2 +c num 1 68719472640 *c hyp 3 +c num 16777213 1152921435887370240 *c hyp 4 +c num 417571796823359768903628070348767145568835506761 14011386967058619658760362417554350983781032170860052480)
    tt

-- the distance that narrowing leaves room for
abbrev pub Before : Float → Fraction → Fraction → Type 0
Before z C S = Within (value_of z ⊗ C) S (tiny 25 ⊕ abs (value_of z) ⊗ tiny 36)

pub narrowed_tangent : (z : Float) (C S : Fraction) → T (finite z) → Size (value_of z) (whole (2 ^ 121)) → Size C (whole 1) → Size S (whole 1) → Before z C S
    → T (finite (narrowed z)) × Within (value_of (narrowed z) ⊗ C) S (tiny 23 ⊕ abs (value_of (narrowed z)) ⊗ tiny 35)
narrowed_tangent z C S f s c o w =
    let p = value_of z in
    let a = value_of (narrowed z) in
    let b = abs a in
    let h = b ⊗ tiny 24 ⊕ tiny 150 in
    let r = rounded-part binary32 (narrowed z) p (whole (2 ^ 121)) (nearest_in_rounded binary32 z f) s largest in
    let d = a ⊗ C ⊖ S in
    let hp : abs p ⊑ b ⊕ h = abs-below p (b ⊕ h) (size-near (within-sym r.near) (abs-size a)) in
    let k : Size d ((tiny 25 ⊕ abs p ⊗ tiny 36) ⊕ h ⊗ abs C) = size-≈ (parted a p C S) (size-⊕ (within→size w) (size-⊗ (within→size r.near) (abs-size C))) in
    let hk : h ⊗ abs C ⊑ abs (a ⊗ C) ⊗ tiny 24 ⊕ tiny 150 = shrunk b (abs C) (abs (a ⊗ C)) (abs-⊗ a C) (abs-below C (whole 1) c) in
    let hv : abs (a ⊗ C) ⊑ whole 1 ⊕ abs d = abs-below (a ⊗ C) (whole 1 ⊕ abs d) (size-near (size→within (abs-size d)) o) in
    let g : abs d ⊑ tiny 23 ⊕ b ⊗ tiny 35 = settled (abs d) (abs p) (abs (a ⊗ C)) b (h ⊗ abs C) (abs-below d ((tiny 25 ⊕ abs p ⊗ tiny 36) ⊕ h ⊗ abs C) k) hk hv hp (abs-pos a) in
    (r.fin, size→within (size-⊑ g (abs-size d)))
