-- Multiples of powers of two, and where a float operation on them is exact.
use Rattle.std.proofs.Common.{◌≡◌, ℕ, suc, ◌+◌, ◌-◌, ◌*◌, ◌^◌, ◌<◌, ◌≤◌, Bool, true, false, not, T, leb, [], ◌∷◌, sym, refl, ap, ◌∙◌, subst, inl, inr, le_trans, le_of_eq, lt_of_le_of_lt, le_of_lt, mul-le-mul_right, zero-lt-suc, mul_comm, eq-or-lt_of_le, one-mul, le_of_mul-le-mul_right, arith, leb→le, pow_pos, pow_mono, pow-add}
use lib.Dec.{nleb→lt}
use lib.Pow.{pow-lt}
use lib.Ieee.{Float, Format, prec, emax, low}
use Rattle.exact.specs.Fraction.{Fraction, ◌⊑◌, ◌≈◌, ◌⊕◌, ◌⊗◌, ◌⊖◌, neg, whole, Size}
use Rattle.exact.specs.Value.{signed}
use Rattle.exact.specs.Multiple.{dif, pw, Multiple, Smaller}
use Rattle.exact.specs.Rounded.{Rounded}
use Rattle.exact.proofs.Order.{≈-sym, ≈-refl, ≈-trans, ⊕-cong, ⊗-cong, ⊗-assoc, neg_cong, neg-⊗, distrib, size-≈}
use Rattle.exact.proofs.Poly.{var, ◌:*◌, same, free}
use Rattle.exact.proofs.Cert.{ring}
use Rattle.exact.proofs.Rounding.{rounded-exact}
use Rattle.exact.proofs.Powers.{Same}

-- ---- the laws of multiples
pub multiple-≈ : {a b u : Fraction} → a ≈ b → Multiple a u → Multiple b u
multiple-≈ e h = record { p = h.p; m = h.m; is = ≈-trans (≈-sym e) h.is }

pub multiple-unit : {a u w : Fraction} → u ≈ w → Multiple a u → Multiple a w
multiple-unit {a} {u} {w} e h = record { p = h.p; m = h.m; is = ≈-trans h.is (⊗-cong (≈-refl (dif h.p h.m)) e) }

dif-add : (p m q n : ℕ) → dif p m ⊕ dif q n ≈ dif (p + q) (m + n)
dif-add p m q n = record { eq = omega arith }

pub dif-mul : (p m q n : ℕ) → dif p m ⊗ dif q n ≈ dif (p * q + m * n) (p * n + m * q)
dif-mul p m q n = record { eq = omega arith }

pub multiple-⊕ : {a b u : Fraction} → Multiple a u → Multiple b u → Multiple (a ⊕ b) u
multiple-⊕ {a} {b} {u} h k = record {
  p = h.p + k.p;
  m = h.m + k.m;
  is = ≈-trans (⊕-cong h.is k.is) (≈-trans (≈-sym (distrib (dif h.p h.m) (dif k.p k.m) u)) (⊗-cong (dif-add h.p h.m k.p k.m) (≈-refl u)));
}

pub multiple-neg : {a u : Fraction} → Multiple a u → Multiple (neg a) u
multiple-neg {a} {u} h = record { p = h.m; m = h.p; is = ≈-trans (neg_cong h.is) (neg-⊗ (dif h.p h.m) u) }

pub multiple-⊖ : {a b u : Fraction} → Multiple a u → Multiple b u → Multiple (a ⊖ b) u
multiple-⊖ h k = multiple-⊕ h (multiple-neg k)

pub four-mul : (a b c d : Fraction) → (a ⊗ b) ⊗ (c ⊗ d) ≈ (a ⊗ c) ⊗ (b ⊗ d)
unfolding same
four-mul a b c d = ring (free a ∷ free b ∷ free c ∷ free d ∷ []) ((var 0 :* var 1) :* (var 2 :* var 3)) ((var 0 :* var 2) :* (var 1 :* var 3)) tt

pub multiple-⊗ : {a b u w : Fraction} → Multiple a u → Multiple b w → Multiple (a ⊗ b) (u ⊗ w)
multiple-⊗ {a} {b} {u} {w} h k = record {
  p = h.p * k.p + h.m * k.m;
  m = h.p * k.m + h.m * k.p;
  is = ≈-trans (⊗-cong h.is k.is) (≈-trans (four-mul (dif h.p h.m) u (dif k.p k.m) w) (⊗-cong (dif-mul h.p h.m k.p k.m) (≈-refl (u ⊗ w))));
}

pub multiple-trans : {a u w : Fraction} → Multiple a u → Multiple u w → Multiple a w
multiple-trans {a} {u} {w} h k = record {
  p = h.p * k.p + h.m * k.m;
  m = h.p * k.m + h.m * k.p;
  is = ≈-trans h.is (≈-trans (⊗-cong (≈-refl (dif h.p h.m)) k.is) (≈-trans (≈-sym (⊗-assoc (dif h.p h.m) (dif k.p k.m) w)) (⊗-cong (dif-mul h.p h.m k.p k.m) (≈-refl w))));
}

-- ---- powers of two
pub one-pw : whole 1 ≈ pw 0 0
one-pw = record { eq = refl }

pub two-pw : whole 2 ≈ pw 1 0
two-pw = record { eq = refl }

pow-sum : (a d c b : ℕ) → a + d ≡ c + b → 2 ^ a * 2 ^ d ≡ 2 ^ c * 2 ^ b
pow-sum a d c b e = sym (pow-add 2 a d) ∙ ap (λ x. 2 ^ x) e ∙ pow-add 2 c b

pub pw-same : (a b c d : ℕ) → a + d ≡ c + b → pw a b ≈ pw c d
pw-same a b c d e = record { eq = omega (arith, pow-sum a d c b e) }

pub pw-mul : (a b c d : ℕ) → pw a b ⊗ pw c d ≈ pw (a + c) (b + d)
pw-mul a b c d = record { eq = go (2 ^ a) (2 ^ b) (2 ^ c) (2 ^ d) (2 ^ (a + c)) (2 ^ (b + d)) (pow-add 2 a c) (pow-add 2 b d) }
  where
    go : (a b c d s t : ℕ) → s ≡ a * c → t ≡ b * d → (a * c + 0 * 0) * t + 0 * (b * d) ≡ s * (b * d) + (a * 0 + 0 * c) * t
    go a b c d s t e f = rw (e, f) (omega arith)

pub pw-le : (a b c d : ℕ) → a + d ≤ c + b → pw a b ⊑ pw c d
pw-le a b c d h = record { le = go (2 ^ a * 2 ^ d) (2 ^ c * 2 ^ b) (le_trans (le_of_eq (sym (pow-add 2 a d))) (le_trans (pow_mono h) (le_of_eq (pow-add 2 c b)))) }
  where
    go : (x y : ℕ) → x ≤ y → x + 0 * 2 ^ b ≤ y + 0 * 2 ^ d
    go x y h = omega arith

pub pw-multiple : (a b c d k : ℕ) → a + d ≡ k + (c + b) → Multiple (pw a b) (pw c d)
pw-multiple a b c d k e = record { p = 2 ^ k; m = 0; is = record { eq = go (2 ^ a) (2 ^ b) (2 ^ c) (2 ^ d) (2 ^ k) (sym (pow-add 2 a d) ∙ ap (λ x. 2 ^ x) e ∙ pow-add 2 k (c + b) ∙ ap (λ x. 2 ^ k * x) (pow-add 2 c b)) } }
  where
    go : (a b c d k : ℕ) → a * d ≡ k * (c * b) → a * (1 * d) + (k * 0 + 0 * c) * b ≡ (k * c + 0 * 0) * b + 0 * (1 * d)
    go a b c d k e = omega arith

-- ---- strict sizes
pub smaller-size : (a c : Fraction) → Smaller a c → Size a c
smaller-size a c h = record { below = record { le = le_of_lt h.below }; above = record { le = le_of_lt h.above } }

-- ---- a number as a sign and a size
pub record Signed (p m : ℕ) : Type 0 where
  pub sign : Bool
  pub size : ℕ
  pub of : dif p m ≈ signed sign size 1 (zero-lt-suc 0)

pub signed_of : (p m : ℕ) → Signed p m
signed_of p m = go (leb m p) (leb→le m p) (nleb→lt m p)
  where
    go : (t : Bool) → (T t → m ≤ p) → (T (not t) → p < m) → Signed p m
    go true f g = let h = f tt in record { sign = false; size = p - m; of = record { eq = omega arith } }
    go false f g = let h = g tt in record { sign = true; size = m - p; of = record { eq = omega arith } }

pub times : (s : Bool) (q u d : ℕ) (ok : 0 < d) → signed s q 1 (zero-lt-suc 0) ⊗ record { plus = u; minus = 0; den = d; ok = ok } ≈ signed s (q * u) d ok
times false q u d ok = record { eq = omega arith }
times true q u d ok = record { eq = omega arith }

-- |±q u / d| ≤ w / d
bounded : (s : Bool) (q d w : ℕ) (ok : 0 < d) → Size (signed s q d ok) (record { plus = w; minus = 0; den = d; ok = ok }) → q ≤ w
bounded false q d w ok h = le_of_mul-le-mul_right (omega (arith, h.below.le)) ok
bounded true q d w ok h = le_of_mul-le-mul_right (omega (arith, h.above.le)) ok

rescale : (s : Bool) (q a b j l : ℕ) (bok : 0 < b) (lok : 0 < l) → j * b ≡ a * l → signed s (q * a) b bok ≈ signed s (q * j) l lok
rescale false q a b j l bok lok e = record { eq = omega (arith, ap (λ x. q * x) e) }
rescale true q a b j l bok lok e = record { eq = omega (arith, ap (λ x. q * x) e) }

-- a is a multiple of 2 ^ k / 2 ^ b, of at most prec digits: rounding changes nothing
pub exact-at : (f : Format) (r : Float) (a : Fraction) (k b j : ℕ) → j + b ≡ k + low f → Rounded f r a → Multiple a (pw k b) → Size a (pw (k + prec f) b) → j + prec f < low f + suc (emax f) → Same r a
exact-at f r a k b j e R M S J =
    let g = signed_of M.p M.m in
    let v : a ≈ signed g.sign (g.size * 2 ^ k) (2 ^ b) (pow_pos b) = ≈-trans M.is (≈-trans (⊗-cong g.of (≈-refl (pw k b))) (times g.sign g.size (2 ^ k) (2 ^ b) (pow_pos b))) in
    let q : g.size * 2 ^ k ≤ 2 ^ (k + prec f) = bounded g.sign (g.size * 2 ^ k) (2 ^ b) (2 ^ (k + prec f)) (pow_pos b) (size-≈ v S) in
    let q' : g.size ≤ 2 ^ prec f = le_of_mul-le-mul_right (le_trans q (le_of_eq (pow-add 2 k (prec f) ∙ mul_comm (2 ^ k) (2 ^ prec f)))) (pow_pos k) in
    let w : a ≈ signed g.sign (g.size * 2 ^ j) (2 ^ low f) (pow_pos (low f)) = ≈-trans v (rescale g.sign g.size (2 ^ k) (2 ^ b) (2 ^ j) (2 ^ low f) (pow_pos b) (pow_pos (low f)) (pow-sum j b k (low f) e)) in
    elim (eq-or-lt_of_le q') [
      | inl same ↦ top g.sign g.size same w
      | inr less ↦ fit g.sign g.size j less (lt_of_le_of_lt (le_trans (mul-le-mul_right (2 ^ j) q') (le_of_eq (mul_comm (2 ^ prec f) (2 ^ j) ∙ sym (pow-add 2 j (prec f))))) (pow-lt J)) w
    ]
  where
    fit : (s : Bool) (q i : ℕ) → q < 2 ^ prec f → q * 2 ^ i < 2 ^ (low f + suc (emax f)) → a ≈ signed s (q * 2 ^ i) (2 ^ low f) (pow_pos (low f)) → Same r a
    fit s q i Q I h = let x = rounded-exact f r a s q i R Q I h in record { fin = x.0; is = x.1 }

    one_less : (p : ℕ) → 0 < p → 1 < 2 ^ p
    one_less p h = pow-lt h

    positive : (f : Format) → 0 < prec f
    positive f = lib.Ieee.Fits.two-le_pos (prec f) (lib.Ieee.Fits.two f)

    top : (s : Bool) (q : ℕ) → q ≡ 2 ^ prec f → a ≈ signed s (q * 2 ^ j) (2 ^ low f) (pow_pos (low f)) → Same r a
    top s q same h =
        let e : q * 2 ^ j ≡ 1 * 2 ^ (j + prec f) = ap (λ x. x * 2 ^ j) same ∙ mul_comm (2 ^ prec f) (2 ^ j) ∙ sym (pow-add 2 j (prec f)) ∙ sym (one-mul (2 ^ (j + prec f))) in
        fit s 1 (j + prec f) (one_less (prec f) (positive f)) (lt_of_le_of_lt (le_of_eq (one-mul (2 ^ (j + prec f)))) (pow-lt J)) (subst (λ z. a ≈ signed s z (2 ^ low f) (pow_pos (low f))) e h)
