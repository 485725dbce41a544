-- Odd multiples of a power of two: they are not zero, and a sum with an even multiple is odd again.
use Rattle.std.proofs.Common.{◌≡◌, ℕ, zero, suc, ◌+◌, ◌-◌, ◌*◌, ◌/◌, ◌%◌, ◌^◌, ◌<◌, ◌≤◌, Bool, true, false, not, ◌&&◌, T, eqb, ltb, leb, ◌⊎◌, [], ◌∷◌, ℤ, pos, negsuc, sym, ap, ◌∙◌, inl, inr, mul-le-mul_right, mul-pos, one-mul, mul-one, arith, eqb→eq, leb→le, pow_pos, pow-add}
use native.Mathlib.Nat.{eq_of_mul-eq-mul_right}
use lib.Dec.{nleb→lt}
use lib.Ieee.{Float, Format, nan, inf, fin, prec, emax, low, up, down, fits}
use lib.Ieee.Fits.{down_pos}
use lib.Ieee.Scale.{finite}
use Rattle.exact.specs.Fraction.{Fraction, ◌≈◌, ◌⊕◌, ◌⊗◌, whole}
use Rattle.exact.specs.Value.{value_of, signed}
use Rattle.exact.specs.Multiple.{dif, pw, Multiple, OddMultiple, Apart}
use Rattle.exact.proofs.Order.{≈-sym, ≈-refl, ≈-trans, ⊕-cong, ⊗-cong}
use Rattle.exact.proofs.Poly.{var, con, ◌:+◌, ◌:*◌, same, free}
use Rattle.exact.proofs.Cert.{ring}
use Rattle.exact.proofs.Closest.{split-pow}
use Rattle.exact.proofs.Multiple.{four-mul, dif-mul}
use Rattle.exact.proofs.Away.{value-signed, Parts, fits-parts, pow_le_back}
use Rattle.exact.proofs.Keep.{apart-≈}

pub odd-≈ : {a b u : Fraction} → a ≈ b → OddMultiple a u → OddMultiple b u
odd-≈ e h = record { p = h.p; m = h.m; is = ≈-trans (≈-sym e) h.is; half = h.half; odd = h.odd }

pub odd-unit : {a u w : Fraction} → u ≈ w → OddMultiple a u → OddMultiple a w
odd-unit e h = record { p = h.p; m = h.m; is = ≈-trans h.is (⊗-cong (≈-refl (dif h.p h.m)) e); half = h.half; odd = h.odd }

pub odd-multiple : {a u : Fraction} → OddMultiple a u → Multiple a u
odd-multiple h = record { p = h.p; m = h.m; is = h.is }

pub odd-⊗ : {a b u w : Fraction} → OddMultiple a u → OddMultiple b w → OddMultiple (a ⊗ b) (u ⊗ w)
odd-⊗ {a} {b} {u} {w} h k = record {
  p = h.p * k.p + h.m * k.m;
  m = h.p * k.m + h.m * k.p;
  is = ≈-trans (⊗-cong h.is k.is) (≈-trans (four-mul (dif h.p h.m) u (dif k.p k.m) w) (⊗-cong (dif-mul h.p h.m k.p k.m) (≈-refl (u ⊗ w))));
  half = 2 * (h.half * k.half) + h.half + k.half;
  odd = go h.p h.m k.p k.m h.half k.half h.odd k.odd;
}
  where
    go : (p m q n a b : ℕ) → p + m ≡ 2 * a + 1 → q + n ≡ 2 * b + 1 → (p * q + m * n) + (p * n + m * q) ≡ 2 * (2 * (a * b) + a + b) + 1
    go p m q n a b e f = omega (arith, ap (λ z. z * (q + n)) e, ap (λ z. (2 * a + 1) * z) f)

gather : (p m q n u : Fraction) → p ⊗ u ⊕ q ⊗ (whole 2 ⊗ u) ≈ (p ⊕ q ⊗ whole 2) ⊗ u
unfolding same
gather p m q n u = ring (free p ∷ free q ∷ free u ∷ []) (var 0 :* var 2 :+ var 1 :* (con (whole 2) :* var 2)) ((var 0 :+ var 1 :* con (whole 2)) :* var 2) tt

dif-twice : (p m q n : ℕ) → dif p m ⊕ dif q n ⊗ whole 2 ≈ dif (p + 2 * q) (m + 2 * n)
dif-twice p m q n = record { eq = omega arith }

pub odd_even : {a b u : Fraction} → OddMultiple a u → Multiple b (whole 2 ⊗ u) → OddMultiple (a ⊕ b) u
odd_even {a} {b} {u} h k = record {
  p = h.p + 2 * k.p;
  m = h.m + 2 * k.m;
  is = ≈-trans (⊕-cong h.is k.is) (≈-trans (gather (dif h.p h.m) (whole 0) (dif k.p k.m) (whole 0) u) (⊗-cong (dif-twice h.p h.m k.p k.m) (≈-refl u)));
  half = h.half + k.p + k.m;
  odd = go h.p h.m k.p k.m h.half h.odd;
}
  where
    go : (p m q n a : ℕ) → p + m ≡ 2 * a + 1 → (p + 2 * q) + (m + 2 * n) ≡ 2 * (a + q + n) + 1
    go p m q n a e = omega arith

-- ---- it is at least its unit in size
pub odd-apart : {v : Fraction} (a b : ℕ) → OddMultiple v (pw a b) → Apart v (pw a b)
odd-apart {v} a b h = apart-≈ (≈-sym h.is) (go (leb h.p h.m) (leb→le h.p h.m) (nleb→lt h.p h.m))
  where
    up_by : (p m g l : ℕ) → (m + 1) * (g * l) ≤ p * (g * l) → g * (1 * l) + (p * 0 + m * g) * l ≤ (p * g + m * 0) * l + 0 * (1 * l)
    up_by p m g l h = omega arith

    down_by : (p m g l : ℕ) → (p + 1) * (g * l) ≤ m * (g * l) → g * (1 * l) + (p * g + m * 0) * l ≤ (p * 0 + m * g) * l + 0 * (1 * l)
    down_by p m g l h = omega arith

    apart : (p m q : ℕ) → p + m ≡ 2 * q + 1 → p ≤ m → p + 1 ≤ m
    apart p m q e l = omega arith

    go : (t : Bool) → (T t → h.p ≤ h.m) → (T (not t) → h.m < h.p) → Apart (dif h.p h.m ⊗ pw a b) (pw a b)
    go true f g = inr (record { le = down_by h.p h.m (2 ^ a) (2 ^ b) (mul-le-mul_right (2 ^ a * 2 ^ b) (apart h.p h.m h.half h.odd (f tt))) })
    go false f g = let l = g tt in inl (record { le = up_by h.p h.m (2 ^ a) (2 ^ b) (mul-le-mul_right (2 ^ a * 2 ^ b) (omega arith)) })

-- and no even multiple
pub odd-clash : {v : Fraction} (a b : ℕ) → OddMultiple v (pw a b) → Multiple v (whole 2 ⊗ pw a b) → ⊥
odd-clash a b h k =
    let e : dif h.p h.m ⊗ pw a b ≈ dif k.p k.m ⊗ (whole 2 ⊗ pw a b) = ≈-trans (≈-sym h.is) k.is in
    clash h.p h.m k.p k.m h.half h.odd
    (eq_of_mul-eq-mul_right (2 ^ a * (2 ^ b * 2 ^ b)) (mul-pos (pow_pos a) (mul-pos (pow_pos b) (pow_pos b))) (h.p + 2 * k.m) (h.m + 2 * k.p) (turn h.p h.m k.p k.m (2 ^ a) (2 ^ b) e.eq))
  where
    clash : (p m q n x : ℕ) → p + m ≡ 2 * x + 1 → p + 2 * n ≡ m + 2 * q → ⊥
    clash p m q n x e f = omega arith

    turn : (p m q n g l : ℕ) → (p * g + m * 0) * (1 * (1 * l)) + (q * (2 * 0 + 0 * g) + n * (2 * g + 0 * 0)) * (1 * l) ≡ (q * (2 * g + 0 * 0) + n * (2 * 0 + 0 * g)) * (1 * l) + (p * 0 + m * g) * (1 * (1 * l)) → (p + 2 * n) * (g * (l * l)) ≡ (m + 2 * q) * (g * (l * l))
    turn p m q n g l h = omega (arith, ap (λ z. z * l) h)

-- ---- a value of a format is zero, or an odd multiple
odd-signed : (s : Bool) (m h u d g l : ℕ) (ok : 0 < d) (lok : 0 < l) → m ≡ 2 * h + 1 → u * l ≡ g * d → OddMultiple (signed s (m * u) d ok) (record { plus = g; minus = 0; den = l; ok = lok })
odd-signed false m h u d g l ok lok o e = record { p = m; m = 0; is = record { eq = omega (arith, ap (λ z. m * z) e) }; half = h; odd = omega arith }
odd-signed true m h u d g l ok lok o e = record { p = 0; m = m; is = record { eq = omega (arith, ap (λ z. m * z) e) }; half = h; odd = omega arith }

pub record Lowest (f : Format) (x : Float) : Type 0 where
  pub place : ℕ
  pub odd : OddMultiple (value_of x) (pw place (low f))

pub lowest : (f : Format) (x : Float) → T (finite x) → T (fits f x) → (value_of x ≈ whole 0) ⊎ Lowest f x
unfolding fits
lowest f nan p h = absurd p
lowest f (inf s) p h = absurd p
lowest f (fin s zero e) p h = inl (≈-trans (value-signed s zero e) (none s (up e) (down e) (down_pos e)))
  where
    none : (s : Bool) (u d : ℕ) (ok : 0 < d) → signed s (0 * u) d ok ≈ whole 0
    none false u d ok = record { eq = omega arith }
    none true u d ok = record { eq = omega arith }
lowest f (fin s (suc m) e) p h = inr (go e (fits-parts f s (suc m) e h))
  where
    first : (a b c d : Bool) → T (a && b && c && d) → T a
    first true b c d t = tt
    first false b c d t = absurd t

    o : suc m % 2 ≡ 1
    o = eqb→eq (suc m % 2) 1 (first (eqb (suc m % 2) 1) (ltb (suc m) (2 ^ prec f)) (leb (down e) (2 ^ low f)) (ltb (suc m * up e) (2 ^ suc (emax f) * down e)) h)

    o2 : suc m ≡ 2 * (suc m / 2) + 1
    o2 = omega (arith, o)

    go : (e : ℤ) → Parts f (suc m) e → Lowest f (fin s (suc m) e)
    go (pos k) P = record { place = k + low f; odd = odd-≈ (≈-sym (value-signed s (suc m) (pos k))) (odd-signed s (suc m) (suc m / 2) (2 ^ k) 1 (2 ^ (k + low f)) (2 ^ low f) (down_pos (pos k)) (pow_pos (low f)) o2 (sym (pow-add 2 k (low f)) ∙ sym (mul-one (2 ^ (k + low f))))) }
    go (negsuc k) P =
        let K : suc k ≤ low f = pow_le_back (suc k) (low f) P.fine in
        let j = low f - suc k in
        let E : 2 ^ j * 2 ^ suc k ≡ 2 ^ low f = split-pow (low f) (suc k) K in
        record { place = j; odd = odd-≈ (≈-sym (value-signed s (suc m) (negsuc k))) (odd-signed s (suc m) (suc m / 2) 1 (2 ^ suc k) (2 ^ j) (2 ^ low f) (down_pos (negsuc k)) (pow_pos (low f)) o2 (one-mul (2 ^ low f) ∙ sym E)) }
