-- Narrowing to binary32 near 1, and whole floats as integers.
use Rattle.std.proofs.Common.{◌≡◌, ℕ, zero, suc, ◌+◌, ◌-◌, ◌*◌, ◌/◌, ◌^◌, ◌<◌, ◌≤◌, min, Bool, true, false, cond, T, ℤ, pos, neg_ℤ, sym, refl, ap, ◌∙◌, subst, le_trans, le_of_eq, mul-le-mul_right, zero-lt-suc, pow-suc, mul-div_cancel, arith, lit<, pow_pos}
use native.Mathlib.Decide.{dec_le}
use lib.Ieee.{Float, nan, inf, fin, binary32, prec, emax, low, up, down, round, size, to_signed}
use lib.Ieee.Fits.{down_pos}
use lib.Ieee.Scale.{finite}
use Rattle.std.specs.Float.{round_to_format}
use Rattle.exact.specs.Fraction.{◌≈◌, ◌⊕◌, whole, tiny, Size, Within, leq}
use Rattle.exact.specs.Value.{value_of, signed, integer, Good, Held}
use Rattle.exact.proofs.Order.{≈-trans, by-test, within-⊑}
use Rattle.exact.proofs.Rounding.{rounded-near}
use Rattle.exact.proofs.Best.{round-best}

-- ---- just above 1
bound : (s : Bool) (num d ed : ℕ) (ok : 0 < d) (eok : 0 < ed) (oo : 0 < 1) → Size (signed s num d ok) (record { plus = 1; minus = 0; den = 1; ok = oo } ⊕ record { plus = 1; minus = 0; den = ed; ok = eok }) → num * ed ≤ d * ed + d
bound false num d ed ok eok oo h = omega (arith, h.below.le)
bound true num d ed ok eok oo h = omega (arith, h.above.le)

at_most : (s : Bool) (num d : ℕ) (ok : 0 < d) (oo : 0 < 1) → num ≤ d → Size (signed s num d ok) (record { plus = 1; minus = 0; den = 1; ok = oo })
at_most false num d ok oo h = record { below = record { le = omega arith }; above = record { le = omega arith } }
at_most true num d ok oo h = record { below = record { le = omega arith }; above = record { le = omega arith } }

near-one : (s : Bool) (num d l ed : ℕ) (ok : 0 < d) (lok : 0 < l) (eok : 0 < ed) → d ≤ num → num * ed ≤ d * ed + d → Within (signed s (1 * l) l lok) (signed s num d ok) (record { plus = 1; minus = 0; den = ed; ok = eok })
near-one false num d l ed ok lok eok a b =
    let p = mul-le-mul_right (l * ed) a in
    let q = mul-le-mul_right l b in
    record { below = record { le = omega arith }; above = record { le = omega arith } }
near-one true num d l ed ok lok eok a b =
    let p = mul-le-mul_right (l * ed) a in
    let q = mul-le-mul_right l b in
    record { below = record { le = omega arith }; above = record { le = omega arith } }

twice : (num d ed l : ℕ) → 0 < ed → num * ed ≤ d * ed + d → num * l ≤ (l * 2) * d
twice num d ed l E h =
    let a : num ≤ 2 * d = native.Mathlib.Nat.le_of_mul-le-mul_right {k = ed} (le_trans h (grow d ed E)) E in
    let b = mul-le-mul_right l a in
    omega arith
  where
    grow : (d ed : ℕ) → 0 < ed → d * ed + d ≤ 2 * d * ed
    grow d ed E = omega (arith, native.Mathlib.Nat.mul-le-mul_left d E)

one-digit : 1 < 2 ^ prec binary32
one-digit = lit< tt

in_reach : suc (low binary32) < low binary32 + suc (emax binary32)
in_reach = lit< tt

module _ (s : Bool) (m : ℕ) (e : ℤ) (is : value_of (fin s m e) ≡ signed s (m * up e) (down e) (down_pos e)) where
  narrowed : Size (signed s (m * up e) (down e) (down_pos e)) (whole 1 ⊕ tiny 25) → Good (round binary32 s (m * up e) (down e)) (signed s (m * up e) (down e) (down_pos e)) (tiny 25)
  unfolding size leq
  narrowed h =
      let num = m * up e in
      let d = down e in
      let b : num * 2 ^ 25 ≤ d * 2 ^ 25 + d = bound s num d (2 ^ 25) (down_pos e) (pow_pos 25) (zero-lt-suc 0) h in
      elim (dec_le num d) [
        | yes g ↦
            (let r = rounded-near binary32 (round binary32 s num d) (signed s num d (down_pos e)) (whole 1) (Rattle.exact.proofs.Rounding.round-rounded binary32 s num d (down_pos e)) (at_most s num d (down_pos e) (zero-lt-suc 0) g) tt in
            record { fin = r.fin; near = within-⊑ (by-test tt) r.near })
        | no g ↦
            round-best binary32 s num d 1 (low binary32) (suc (low binary32)) 1 (2 ^ 25) (down_pos e) (pow_pos 25) one-digit
            (le_trans (twice num d (2 ^ 25) (2 ^ low binary32) (pow_pos 25) b) (mul-le-mul_right d (le_of_eq (sym (pow-suc 2 (low binary32))))))
            in_reach (near-one s num d (2 ^ low binary32) (2 ^ 25) (down_pos e) (pow_pos (low binary32)) (pow_pos 25) (omega arith) b)
      ]

-- up to 1 + 2 ^ -25 in size, narrowing is within 2 ^ -25
pub narrow32 : (x : Float) → Held x (whole 1 ⊕ tiny 25) → Good (round_to_format binary32 x) (value_of x) (tiny 25)
unfolding round_to_format
narrow32 nan h = absurd h.fin
narrow32 (inf s) h = absurd h.fin
narrow32 (fin false m e) h = narrowed false m e refl h.size
narrow32 (fin true m e) h = narrowed true m e refl h.size

-- ---- whole floats
whole_of : (t s : Bool) (p n d : ℕ) (ok : 0 < d) (oo : 0 < 1) → signed t p d ok ≈ signed s n 1 oo → p ≡ n * d
whole_of false false p n d ok oo h = omega (arith, h.eq)
whole_of true true p n d ok oo h = omega (arith, h.eq)
whole_of false true p n d ok oo h = omega (arith, h.eq)
whole_of true false p n d ok oo h = omega (arith, h.eq)

signed-int : (t : Bool) (n : ℕ) (oo : 0 < 1) → integer (cond t (neg_ℤ (pos n)) (pos n)) ≈ signed t n 1 oo
signed-int false n oo = record { eq = refl }
signed-int true zero oo = record { eq = refl }
signed-int true (suc n) oo = record { eq = refl }

same_sign : (t s : Bool) (p n d : ℕ) (ok : 0 < d) (oo : 0 < 1) → p ≡ n * d → signed t n 1 oo ≈ signed t p d ok
same_sign false s p n d ok oo h = record { eq = omega arith }
same_sign true s p n d ok oo h = record { eq = omega arith }

uncapped : (t : Bool) (q n c : ℕ) → q ≡ n → n < c → cond t (neg_ℤ (pos (min q c))) (pos (min q (c - 1))) ≡ cond t (neg_ℤ (pos n)) (pos n)
uncapped false q n c e h = let k : min q (c - 1) ≡ n = omega arith in ap pos k
uncapped true q n c e h = let k : min q c ≡ n = omega arith in ap (λ z. neg_ℤ (pos z)) k

pub signed_is : (s : Bool) (m : ℕ) (e : ℤ) → value_of (fin s m e) ≡ signed s (m * up e) (down e) (down_pos e)
signed_is false m e = refl
signed_is true m e = refl

pub to-int : (h : ℕ) (r : Float) (s : Bool) (n : ℕ) (oo : 0 < 1) → T (finite r) → value_of r ≈ signed s n 1 oo → n < 2 ^ h → integer (to_signed h r) ≈ value_of r
unfolding to_signed
to-int h nan s n oo f e k = absurd f
to-int h (inf t) s n oo f e k = absurd f
to-int h (fin t m d) s n oo f e k =
    let p = m * up d in
    let e' : signed t p (down d) (down_pos d) ≈ signed s n 1 oo = subst (λ z. z ≈ signed s n 1 oo) (signed_is t m d) e in
    let w : p ≡ n * down d = whole_of t s p n (down d) (down_pos d) oo e' in
    let q : p / down d ≡ n = ap (λ z. z / down d) w ∙ mul-div_cancel n (down_pos d) in
    let c : cond t (neg_ℤ (pos (min (p / down d) (2 ^ h)))) (pos (min (p / down d) (2 ^ h - 1))) ≡ cond t (neg_ℤ (pos n)) (pos n) = uncapped t (p / down d) n (2 ^ h) q k in
    subst (λ z. integer z ≈ value_of (fin t m d)) (sym c)
    (subst (λ z. integer (cond t (neg_ℤ (pos n)) (pos n)) ≈ z) (sym (signed_is t m d))
    (≈-trans (signed-int t n oo) (same_sign t s p n (down d) (down_pos d) oo w)))
