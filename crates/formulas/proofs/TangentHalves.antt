-- Half turns at a whole number and a half: which steps they are, and the sign of the infinity.
use Rattle.std.proofs.Common.{◌≡◌, ℕ, suc, ◌+◌, ◌-◌, ◌*◌, ◌/◌, ◌%◌, ◌^◌, ◌<◌, ◌≤◌, Bool, true, false, ◌&&◌, ◌||◌, T, eqb, leb, [], ◌∷◌, ℤ, pos, negsuc, sym, refl, ap, ◌∙◌, subst, inl, inr, mul-le-mul_right, arith, lit≤, eq-eqb, ne_eqb, le-leb}
use native.Mathlib.Decide.{dec_le}
use lib.Count.{count_trailing_zeros}
use lib.Ieee.{Float, nan, inf, fin, up, down, of_bits, of_fields, odd, eq}
use lib.Ieee.Fits.{eq→eqb}
use lib.Ieee.Scale.{finite}
use Rattle.exact.specs.Fraction.{Fraction, ◌≈◌, ◌⊑◌, ◌⊕◌, ◌⊗◌, ◌⊖◌, neg, whole, frac, tiny, Size}
use Rattle.exact.specs.Value.{value_of, integer}
use Rattle.exact.specs.Multiple.{dif, pw, Multiple, Apart}
use Rattle.exact.proofs.Order.{≈-refl, ≈-sym, ≈-trans, ⊕-cong, ⊗-cong, ⊕-zero, ⊗-one, tiny-mono, ≈→⊒, ⊑_trans, neg_cong}
use Rattle.exact.proofs.Poly.{var, con, ◌:+◌, ◌:*◌, ◌:-◌, free, same}
use Rattle.exact.proofs.Cert.{ring}
use Rattle.exact.proofs.Keep.{apart-⊑}
use Rattle.exact.proofs.Multiple.{multiple-≈, multiple-unit, multiple-⊖, multiple-⊗, multiple-trans, pw-multiple}
use Rattle.exact.proofs.Away.{int-multiple}
use Rattle.reducers.specs.Exact.{mod_turn}
use Rattle.formulas.specs.Words.{zero64}
use Rattle.formulas.specs.Tangent.{AtHalf}
use borrow.Author.Tests.{lt-leb}

-- ---- a whole number and a half is 16 modulo 32 steps, and nothing left
equal : (l r a b c : ℕ) → 0 < c → l * c + a ≡ r * c + b → a * 2 ≤ c + b * 2 → b * 2 ≤ a * 2 + c → l ≡ r
equal l r a b c C e h k =
    elim (dec_le (suc l) r) [
      | yes i ↦ absurd (less (mul-le-mul_right c i))
      | no i ↦ elim (dec_le (suc r) l) [ yes j ↦ absurd (greater (mul-le-mul_right c j)) | no j ↦ omega arith ]
    ]
  where
    less : suc l * c ≤ r * c → ⊥
    less i = omega arith

    greater : suc r * c ≤ l * c → ⊥
    greater i = omega arith

module _ (kp km np nm : ℕ) (Y : Fraction) (e : dif kp km ⊕ Y ≈ whole 32 ⊗ (dif np nm ⊕ frac 1 2)) (h : Size Y (frac 1 2)) where
  line : (kp + 32 * nm) * Y.den + Y.plus ≡ (km + 32 * np + 16) * Y.den + Y.minus
  line = omega (arith, e.eq)

  steps-equal : kp + 32 * nm ≡ km + 32 * np + 16
  steps-equal = equal (kp + 32 * nm) (km + 32 * np + 16) Y.plus Y.minus Y.den Y.ok line (omega (arith, h.below.le)) (omega (arith, h.above.le))

  none_left : Y ≈ whole 0
  none_left = record { eq = go ((kp + 32 * nm) * Y.den) ((km + 32 * np + 16) * Y.den) (ap (λ z. z * Y.den) steps-equal) line }
    where
      go : (p q : ℕ) → p ≡ q → p + Y.plus ≡ q + Y.minus → Y.plus * 1 + 0 * Y.den ≡ 0 * Y.den + Y.minus * 1
      go p q f g = omega arith

module _ (X Y : Fraction) (h : Size Y (frac 1 2)) where
  pub half-steps : (k n : ℤ) → integer k ⊕ Y ≈ whole 32 ⊗ X → X ≈ integer n ⊕ frac 1 2 → (Y ≈ whole 0) × (mod_turn k % 32 ≡ 16)
  half-steps (pos j) (pos i) e f =
      let g = ≈-trans e (⊗-cong (≈-refl (whole 32)) f) in
      let s = steps-equal j 0 i 0 Y g h in
      (none_left j 0 i 0 Y g h, omega arith)
  half-steps (pos j) (negsuc i) e f =
      let g = ≈-trans e (⊗-cong (≈-refl (whole 32)) f) in
      let s = steps-equal j 0 0 (suc i) Y g h in
      (none_left j 0 0 (suc i) Y g h, omega arith)
  half-steps (negsuc j) (pos i) e f =
      let g = ≈-trans e (⊗-cong (≈-refl (whole 32)) f) in
      let s = steps-equal 0 (suc j) i 0 Y g h in
      (none_left 0 (suc j) i 0 Y g h, omega arith)
  half-steps (negsuc j) (negsuc i) e f =
      let g = ≈-trans e (⊗-cong (≈-refl (whole 32)) f) in
      let s = steps-equal 0 (suc j) 0 (suc i) Y g h in
      (none_left 0 (suc j) 0 (suc i) Y g h, omega arith)

-- whole numbers are not that
pub whole_not_half : (X : Fraction) → Multiple X (whole 1) → (n : ℤ) → X ≈ integer n ⊕ frac 1 2 → ⊥
whole_not_half X M n e = go M.p M.m n (≈-trans (≈-sym M.is) e)
  where
    go : (p m : ℕ) (n : ℤ) → dif p m ⊗ whole 1 ≈ integer n ⊕ frac 1 2 → ⊥
    go p m (pos i) e = omega (arith, e.eq)
    go p m (negsuc i) e = omega (arith, e.eq)

-- ---- and the steps tell it
shared : (X K Y : Fraction) → K ⊕ Y ≈ whole 32 ⊗ X → Y ≈ whole 0 → X ≈ K ⊗ frac 1 32
unfolding same
shared X K Y e z =
    let f : K ≈ whole 32 ⊗ X = ≈-trans (≈-sym (≈-trans (⊕-cong (≈-refl K) z) (⊕-zero K))) e in
    ≈-sym (≈-trans (⊗-cong f (≈-refl (frac 1 32))) (ring (free X ∷ []) ((con (whole 32) :* var 0) :* con (frac 1 32)) (var 0) tt))

later : (a b : ℕ) → (32 ≤ a → b ≡ 1) → (a < 32 → b ≡ 1 → ⊥) → leb 32 a ≡ eqb b 1
later a b f g = elim (dec_le 32 a) [ yes h ↦ le-leb 32 a h ∙ sym (eq-eqb b 1 (f h)) | no h ↦ lt-leb 32 a (under h) ∙ sym (ne_eqb b 1 (g (under h))) ]
  where
    under : (32 ≤ a → ⊥) → a < 32
    under h = omega arith

pub at-half : (x : Float) (k : ℤ) (Y : Fraction) → integer k ⊕ Y ≈ whole 32 ⊗ value_of x → Y ≈ whole 0 → mod_turn k % 32 ≡ 16 → AtHalf x (inf (leb 32 (mod_turn k)))
at-half x (pos j) Y e z h =
    record {
      n = pos (j / 32);
      is = ≈-trans (shared (value_of x) (whole j) Y e z) (record { eq = omega arith });
      infinite = ap inf (later (j % 64) (j / 32 % 2) (λ l. high l) (λ l. low l));
    }
  where
    high : 32 ≤ j % 64 → j / 32 % 2 ≡ 1
    high l = omega arith

    low : j % 64 < 32 → j / 32 % 2 ≡ 1 → ⊥
    low l i = omega arith
at-half x (negsuc j) Y e z h =
    record {
      n = negsuc (j / 32);
      is = ≈-trans (shared (value_of x) (integer (negsuc j)) Y e z) (record { eq = omega arith });
      infinite = ap inf (later (63 - j % 64) (suc (j / 32) % 2) (λ l. high l) (λ l. low l));
    }
  where
    high : 32 ≤ 63 - j % 64 → suc (j / 32) % 2 ≡ 1
    high l = omega arith

    low : 63 - j % 64 < 32 → suc (j / 32) % 2 ≡ 1 → ⊥
    low l i = omega arith

-- ---- what is left is zero, or not too small
both : (a b : Bool) → T a → T b → T (a && b)
both true b p q = q
both false b p q = p

eq-zero : (y : Float) → T (finite y) → value_of y ≈ whole 0 → T (eq y zero64)
unfolding eq of_bits of_fields odd count_trailing_zeros
eq-zero nan p e = absurd p
eq-zero (inf s) p e = absurd p
eq-zero (fin true m d) p e = both (eqb (m * up d * 1) (0 * 1 * down d)) (false || eqb (m * up d * 1) 0) (eq→eqb (none (m * up d) (down d) e.eq)) (eq→eqb (zero (m * up d) (down d) e.eq))
  where
    none : (n d : ℕ) → 0 * 1 + 0 * d ≡ 0 * d + n * 1 → n * 1 ≡ 0 * 1 * d
    none n d h = omega arith

    zero : (n d : ℕ) → 0 * 1 + 0 * d ≡ 0 * d + n * 1 → n * 1 ≡ 0
    zero n d h = omega arith
eq-zero (fin false m d) p e = both (eqb (m * up d * 1) (0 * 1 * down d)) (true || eqb (m * up d * 1) 0) (eq→eqb (none (m * up d) (down d) e.eq)) tt
  where
    none : (n d : ℕ) → n * 1 + 0 * d ≡ 0 * d + 0 * 1 → n * 1 ≡ 0 * 1 * d
    none n d h = omega arith

pub not_zero : (y : Float) → T (finite y) → eq y zero64 ≡ false → value_of y ≈ whole 0 → ⊥
not_zero y p f e = subst T f (eq-zero y p e)

multiple-apart : (v : Fraction) → Multiple v (tiny 32) → (v ≈ whole 0 → ⊥) → Apart v (tiny 32)
multiple-apart v M n =
    elim (dec_le (suc M.m) M.p) [
      | yes h ↦ inl (⊑_trans (over M.p M.m h) (≈→⊒ M.is))
      | no h ↦ elim (dec_le (suc M.p) M.m) [ yes i ↦ inr (⊑_trans (under M.p M.m i) (≈→⊒ (neg_cong M.is))) | no i ↦ absurd (n (≈-trans M.is (none M.p M.m (omega arith)))) ]
    ]
  where
    over : (p m : ℕ) → suc m ≤ p → tiny 32 ⊑ dif p m ⊗ tiny 32
    over p m h = record { le = omega arith }

    under : (p m : ℕ) → suc p ≤ m → tiny 32 ⊑ neg (dif p m ⊗ tiny 32)
    under p m h = record { le = omega arith }

    none : (p m : ℕ) → p ≡ m → dif p m ⊗ tiny 32 ≈ whole 0
    none p m h = record { eq = omega arith }

left_over : (K Y S : Fraction) → K ⊕ Y ≈ S → S ⊖ K ≈ Y
unfolding same
left_over K Y S e = ≈-trans (⊕-cong (≈-sym e) (≈-refl (neg K))) (ring (free K ∷ free Y ∷ []) ((var 0 :+ var 1) :- var 0) (var 1) tt)

-- x a multiple of 2 ^ -37, so 32 x and what is left of it of 2 ^ -32
pub left-apart : (X Y : Fraction) (k : ℤ) (z : ℕ) → 112 ≤ z → Multiple X (pw z 149) → integer k ⊕ Y ≈ whole 32 ⊗ X → (Y ≈ whole 0 → ⊥) → Apart Y (tiny 115)
left-apart X Y k z h M e n =
    let a : Multiple X (pw 0 37) = multiple-trans M (pw-multiple z 149 0 37 (z - 112) (omega arith)) in
    let b : Multiple (whole 32 ⊗ X) (tiny 32) = multiple-unit (record { eq = refl }) (multiple-⊗ {a = whole 32} {u = whole 32} (record { p = 1; m = 0; is = record { eq = refl } }) a) in
    let c : Multiple (integer k) (tiny 32) = multiple-trans (multiple-≈ (⊗-one (integer k)) (int-multiple k (whole 1))) (record { p = 2 ^ 32; m = 0; is = record { eq = refl } }) in
    apart-⊑ (tiny-mono 32 115 (lit≤ tt)) (multiple-apart Y (multiple-≈ (left_over (integer k) Y (whole 32 ⊗ X) e) (multiple-⊖ b c)) n)
