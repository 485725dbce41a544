-- The operations of the reducer on floats: which are exact, and how far the others are off.
use Rattle.std.proofs.Common.{◌≡◌, ℕ, ◌+◌, ◌-◌, ◌*◌, ◌^◌, ◌<◌, ◌≤◌, T, ℤ, sym, refl, subst, arith}
use lib.Ieee.{Float, binary64, add, sub, mul}
use lib.Ieee.Scale.{finite}
use Rattle.exact.specs.Fraction.{Fraction, ◌≈◌, ◌⊕◌, ◌⊗◌, ◌⊖◌, whole, Size, Within, leq, tiny, frac}
use Rattle.exact.specs.Value.{value_of, integer, Good}
use Rattle.exact.specs.Multiple.{pw, Multiple, OddMultiple, Apart}
use Rattle.exact.specs.Rounded.{error_of, in_range}
use Rattle.exact.proofs.Order.{⊑_trans, ≈→⊑, ≈-sym, ≈-trans, by-test, size-⊕, size-⊗, size-near, size-⊑, within-⊑, within-refl, size-≈}
use Rattle.exact.proofs.Rounding.{add-rounded, mul-rounded, rounded-near}
use Rattle.exact.proofs.Powers.{Same}
use Rattle.exact.proofs.Multiple.{multiple-≈, multiple-unit, multiple-⊕, multiple-⊖, multiple-⊗, multiple-trans, pw-same, pw-mul, pw-le, pw-multiple, exact-at, one-pw}
use Rattle.exact.proofs.Away.{Away, away-small, int_of}
use Rattle.exact.proofs.Odd.{odd-≈, odd-multiple}
use Rattle.reducers.proofs.Chain.{chain, tailed}
use Rattle.reducers.proofs.Apart.{term, odd-term, whole-term, sum-keeps, sum-apart}

-- ---- a float of 24 digits, with the exponent of its lowest bit: a multiple of 2 ^ z / 2 ^ 149
pub record Word (x : Float) (z : ℕ) : Type 0 where
  pub fin : T (finite x)
  pub grid : Multiple (value_of x) (pw z 149)
  pub size : Size (value_of x) (pw (z + 24) 149)

-- a constant of 28 digits, at most b in size
pub record Piece (c : Float) (l : ℕ) (b : Fraction) : Type 0 where
  pub fin : T (finite c)
  pub grid : Multiple (value_of c) (pw 0 l)
  pub digits : Size (value_of c) (pw 28 l)
  pub room : l ≤ 925
  pub size : Size (value_of c) b

-- ---- their product is exact
pub product-grid : (x c : Float) (z l : ℕ) (b : Fraction) → Word x z → Piece c l b → Multiple (value_of x ⊗ value_of c) (pw z (149 + l))
product-grid x c z l b w p = multiple-unit (≈-trans (pw-mul z 149 0 l) (pw-same (z + 0) (149 + l) z (149 + l) (omega arith))) (multiple-⊗ w.grid p.grid)

pub product-size : (x c : Float) (z l : ℕ) (b : Fraction) → Word x z → Piece c l b → Size (value_of x ⊗ value_of c) (pw (z + 52) (149 + l))
product-size x c z l b w p = size-⊑ (≈→⊑ (≈-trans (pw-mul (z + 24) 149 28 l) (pw-same (z + 24 + 28) (149 + l) (z + 52) (149 + l) (omega arith)))) (size-⊗ w.size p.digits)

pub product-exact : (x c : Float) (z l : ℕ) (b : Fraction) → Word x z → Piece c l b → z ≤ 253 → Same (mul binary64 x c) (value_of x ⊗ value_of c)
product-exact x c z l b w p h =
    let r = 925 - l in
    let e : l + r ≡ 925 = omega (arith, p.room) in
    exact-at binary64 (mul binary64 x c) (value_of x ⊗ value_of c) z (149 + l) (z + r) (omega arith) (mul-rounded binary64 x c w.fin p.fin) (product-grid x c z l b w p)
    (size-⊑ (pw-le (z + 52) (149 + l) (z + 53) (149 + l) (omega arith)) (product-size x c z l b w p)) (omega arith)

-- ---- a sum up to B in size, with the error e for that size
pub summed : (a b : Float) (B e : Fraction) → T (finite a) → T (finite b) → Size (value_of a ⊕ value_of b) B → T (in_range binary64 B) → T (leq (error_of binary64 B) e) → Good (add binary64 a b) (value_of a ⊕ value_of b) e
summed a b B e p q s t u = let g = rounded-near binary64 (add binary64 a b) (value_of a ⊕ value_of b) B (add-rounded binary64 a b p q) s t in record { fin = g.fin; near = within-⊑ (by-test u) g.near }

-- ---- the second whole part: the sum of x c1 and the first fraction is exact from some exponent on
half-pw : frac 1 2 ≈ pw 0 1
half-pw = record { eq = refl }

double-pw : (a b : ℕ) → pw a b ⊕ pw a b ≈ pw (a + 1) b
double-pw a b = record { eq = go (2 ^ a) (2 ^ b) (2 ^ (a + 1)) (lib.Pow.pow-add 2 a 1) }
  where
    go : (a b c : ℕ) → c ≡ a * 2 → (a * b + a * b) * b + 0 * (b * b) ≡ c * (b * b) + (0 * b + 0 * b) * b
    go a b c e = rw e (omega arith)

pub lo-exact : (x c0 c1 hi kh fr q1 : Float) (z l0 l1 : ℕ) (b0 b1 : Fraction) → Word x z → Piece c0 l0 b0 → Piece c1 l1 b1 → l0 ≤ l1 → z ≤ 149 + l1 → 96 + l1 ≤ z → z ≤ 253
    → Same hi (value_of x ⊗ value_of c0) → Multiple (value_of kh) (whole 1) → Same fr (value_of hi ⊖ value_of kh) → Size (value_of fr) (frac 1 2) → Same q1 (value_of x ⊗ value_of c1)
    → Good (add binary64 q1 fr) (value_of q1 ⊕ value_of fr) (whole 0)
lo-exact x c0 c1 hi kh fr q1 z l0 l1 b0 b1 w p0 p1 D K H Z h kw f fs q =
    let r = 925 - l1 in
    let R : l1 + r ≡ 925 = omega (arith, p1.room) in
    let u = pw z (149 + l1) in
    let a : Multiple (value_of q1) u = multiple-≈ (≈-sym q.is) (product-grid x c1 z l1 b1 w p1) in
    let b : Multiple (value_of hi) u = multiple-≈ (≈-sym h.is) (multiple-trans (product-grid x c0 z l0 b0 w p0) (pw-multiple z (149 + l0) z (149 + l1) (l1 - l0) (omega arith))) in
    let c : Multiple (value_of kh) u = multiple-trans (multiple-unit one-pw kw) (pw-multiple 0 0 z (149 + l1) (149 + l1 - z) (omega arith)) in
    let g : Multiple (value_of q1 ⊕ value_of fr) u = multiple-⊕ a (multiple-≈ (≈-sym f.is) (multiple-⊖ b c)) in
    let s : Size (value_of q1 ⊕ value_of fr) (pw (z + 53) (149 + l1)) =
    size-⊑ (≈→⊑ (≈-trans (double-pw (z + 52) (149 + l1)) (pw-same (z + 52 + 1) (149 + l1) (z + 53) (149 + l1) (omega arith))))
    (size-⊕ (size-≈ (≈-sym q.is) (product-size x c1 z l1 b1 w p1)) (size-⊑ (⊑_trans (≈→⊑ half-pw) (pw-le 0 1 (z + 52) (149 + l1) (omega arith))) fs)) in
    let y = exact-at binary64 (add binary64 q1 fr) (value_of q1 ⊕ value_of fr) z (149 + l1) (z + r) (omega arith) (add-rounded binary64 q1 fr q.fin f.fin) g s (omega arith) in
    record { fin = y.fin; near = within-refl y.is }

-- ---- all of it, over closed bounds
-- kh + kl + y and 64 n are within 2 ^ -52 of X r
pub record Found (X r : Fraction) (l2 l3 : ℕ) (kh kl y : Float) : Type 0 where
  pub fin : T (finite y)
  pub small : Size (value_of y) (frac 11 16)
  pub fin-hi : T (finite kh)
  pub whole-hi : Multiple (value_of kh) (whole 1)
  pub size-hi : Size (value_of kh) (whole (2 ^ 57 - 1))
  pub fin-lo : T (finite kl)
  pub whole-lo : Multiple (value_of kl) (whole 1)
  pub size-lo : Size (value_of kl) (whole (2 ^ 57 - 1))
  pub few : Size (value_of kh ⊕ value_of kl) (whole (2 ^ 57 - 1))
  pub turns : ℤ
  pub near : Within (((value_of kh ⊕ value_of kl) ⊕ value_of y) ⊕ integer turns ⊗ whole 64) (X ⊗ r) (tiny 52)
  pub far : (v : ℕ) → OddMultiple X (pw v 149) → v ≤ 149 + l2 → Apart (value_of y) (pw v (149 + l3))

abbrev pub B1 : Fraction → Fraction → Fraction
B1 bx b2 = bx ⊗ b2 ⊕ frac 1 2

abbrev pub B2 : Fraction → Fraction → Fraction → Fraction → Fraction
B2 bx b2 b3 e = bx ⊗ b3 ⊕ (B1 bx b2 ⊕ e)

abbrev pub KH : Fraction → Fraction → Fraction
KH bx b0 = bx ⊗ b0 ⊕ frac 1 2

abbrev pub KL : Fraction → Fraction → Fraction → Fraction
KL bx b1 e = ((bx ⊗ b1 ⊕ frac 1 2) ⊕ e) ⊕ frac 1 2

-- the tests
pub record Tests (b0 b1 b2 b3 bx e t : Fraction) : Type 0 where
  pub r1 : T (in_range binary64 (B1 bx b2))
  pub e1 : T (leq (error_of binary64 (B1 bx b2)) e)
  pub r2 : T (in_range binary64 (B2 bx b2 b3 e))
  pub e2 : T (leq (error_of binary64 (B2 bx b2 b3 e)) e)
  pub last : T (leq (B2 bx b2 b3 e ⊕ e) (frac 11 16))
  pub hi : T (leq (KH bx b0) (whole (2 ^ 57 - 1)))
  pub lo : T (leq (KL bx b1 e) (whole (2 ^ 57 - 1)))
  pub both : T (leq (KH bx b0 ⊕ KL bx b1 e) (whole (2 ^ 57 - 1)))
  pub all : T (leq ((e ⊕ (e ⊕ e)) ⊕ t ⊗ bx) (tiny 52))

module _ (x c0 c1 c2 c3 : Float) (z l0 l1 l2 l3 : ℕ) (b0 b1 b2 b3 bx e t s r : Fraction) (w : Word x z) (p0 : Piece c0 l0 b0) (p1 : Piece c1 l1 b1) (p2 : Piece c2 l2 b2) (p3 : Piece c3 l3 b3) (Z : z ≤ 253) (bound : Size (value_of x) bx) (test : Tests b0 b1 b2 b3 bx e t) (skip : Multiple (value_of x ⊗ s) (whole 64)) (tail : Within (s ⊕ (value_of c0 ⊕ value_of c1 ⊕ value_of c2 ⊕ value_of c3)) r t) (o3 : OddMultiple (value_of c3) (pw 0 l3)) (L02 : l0 ≤ l2) (L12 : l1 ≤ l2) (L23 : l2 < l3) where
  pub large : (hi kh fr q1 lo kl y0 q2 y1 q3 y2 : Float) → Same hi (value_of x ⊗ value_of c0) → Away binary64 kh hi → Same fr (value_of hi ⊖ value_of kh) → Same q1 (value_of x ⊗ value_of c1) → lo ≡ add binary64 q1 fr → Good lo (value_of q1 ⊕ value_of fr) e
      → Away binary64 kl lo → y0 ≡ sub binary64 lo kl → q2 ≡ mul binary64 x c2 → y1 ≡ add binary64 q2 y0 → q3 ≡ mul binary64 x c3 → y2 ≡ add binary64 q3 y1 → Found (value_of x) r l2 l3 kh kl y2
  large hi kh fr q1 lo kl y0 q2 y1 q3 y2 HI KH' FR Q1 EL LO KL' E0 F2 E1 F3 E2 =
      let Q2 : Same q2 (value_of x ⊗ value_of c2) = subst (λ v. Same v (value_of x ⊗ value_of c2)) (sym F2) (product-exact x c2 z l2 b2 w p2 Z) in
      let Q3 : Same q3 (value_of x ⊗ value_of c3) = subst (λ v. Same v (value_of x ⊗ value_of c3)) (sym F3) (product-exact x c3 z l3 b3 w p3 Z) in
      let Y0 : Same y0 (value_of lo ⊖ value_of kl) = subst (λ v. Same v (value_of lo ⊖ value_of kl)) (sym E0) KL'.exact in
      let S0 : Size (value_of y0) (frac 1 2) = size-≈ (≈-sym Y0.is) (away-small KL') in
      let S1 : Size (value_of q2 ⊕ value_of y0) (B1 bx b2) = size-⊕ (size-≈ (≈-sym Q2.is) (size-⊗ bound p2.size)) S0 in
      let Y1 : Good y1 (value_of q2 ⊕ value_of y0) e = subst (λ v. Good v (value_of q2 ⊕ value_of y0) e) (sym E1) (summed q2 y0 (B1 bx b2) e Q2.fin Y0.fin S1 test.r1 test.e1) in
      let S2 : Size (value_of q3 ⊕ value_of y1) (B2 bx b2 b3 e) = size-⊕ (size-≈ (≈-sym Q3.is) (size-⊗ bound p3.size)) (size-near Y1.near S1) in
      let Y2 : Good y2 (value_of q3 ⊕ value_of y1) e = subst (λ v. Good v (value_of q3 ⊕ value_of y1) e) (sym E2) (summed q3 y1 (B2 bx b2 b3 e) e Q3.fin Y1.fin S2 test.r2 test.e2) in
      let SF : Size (value_of fr) (frac 1 2) = size-≈ (≈-sym FR.is) (away-small KH') in
      let SH : Size (value_of kh) (KH bx b0) = size-near KH'.near (size-≈ (≈-sym HI.is) (size-⊗ bound p0.size)) in
      let SL : Size (value_of kl) (KL bx b1 e) = size-near KL'.near (size-near LO.near (size-⊕ (size-≈ (≈-sym Q1.is) (size-⊗ bound p1.size)) SF)) in
      let C = chain (value_of x) (value_of c0) (value_of c1) (value_of c2) (value_of c3) (value_of kh) (value_of kl) (value_of hi) (value_of fr) (value_of q1) (value_of lo) (value_of y0) (value_of q2) (value_of y1) (value_of q3) (value_of y2) e HI.is FR.is Q1.is LO.near Y0.is Q2.is Y1.near Q3.is Y2.near in
      let n = lib.IntN.sub_ℕ skip.p skip.m in
      record {
        fin = Y2.fin;
        small = size-⊑ (by-test test.last) (size-near Y2.near S2);
        fin-hi = KH'.fin;
        whole-hi = KH'.integral;
        size-hi = size-⊑ (by-test test.hi) SH;
        fin-lo = KL'.fin;
        whole-lo = KL'.integral;
        size-lo = size-⊑ (by-test test.lo) SL;
        few = size-⊑ (by-test test.both) (size-⊕ SH SL);
        turns = n;
        near = within-⊑ (by-test test.all) (tailed (value_of x) s (value_of c0 ⊕ value_of c1 ⊕ value_of c2 ⊕ value_of c3) r ((value_of kh ⊕ value_of kl) ⊕ value_of y2) (integer n ⊗ whole 64) (e ⊕ (e ⊕ e)) t bx C (int_of skip) tail bound);
        far = λ v O V.
            let M = odd-multiple O in
            let hiM : Multiple (value_of hi) (pw v (149 + l2)) = multiple-≈ (≈-sym HI.is) (term (value_of x) (value_of c0) v l0 l2 L02 M p0.grid) in
            let frM : Multiple (value_of fr) (pw v (149 + l2)) = multiple-≈ (≈-sym FR.is) (multiple-⊖ hiM (whole-term (value_of kh) v l2 V KH'.integral)) in
            let q1M : Multiple (value_of q1) (pw v (149 + l2)) = multiple-≈ (≈-sym Q1.is) (term (value_of x) (value_of c1) v l1 l2 L12 M p1.grid) in
            let loM : Multiple (value_of lo) (pw v (149 + l2)) = subst (λ u. Multiple (value_of u) (pw v (149 + l2))) (sym EL) (sum-keeps q1 fr v l2 p2.room Q1.fin FR.fin (subst (λ u. T (finite u)) EL LO.fin) q1M frM) in
            let y0M : Multiple (value_of y0) (pw v (149 + l2)) = multiple-≈ (≈-sym Y0.is) (multiple-⊖ loM (whole-term (value_of kl) v l2 V KL'.integral)) in
            let q2M : Multiple (value_of q2) (pw v (149 + l2)) = multiple-≈ (≈-sym Q2.is) (term (value_of x) (value_of c2) v l2 l2 (omega arith) M p2.grid) in
            let y1M : Multiple (value_of y1) (pw v (149 + l2)) = subst (λ u. Multiple (value_of u) (pw v (149 + l2))) (sym E1) (sum-keeps q2 y0 v l2 p2.room Q2.fin Y0.fin (subst (λ u. T (finite u)) E1 Y1.fin) q2M y0M) in
            let q3O : OddMultiple (value_of q3) (pw v (149 + l3)) = odd-≈ (≈-sym Q3.is) (odd-term (value_of x) (value_of c3) v l3 O o3) in
            subst (λ u. Apart (value_of u) (pw v (149 + l3))) (sym E2) (sum-apart q3 y1 v l2 l3 L23 p3.room Q3.fin Y1.fin (subst (λ u. T (finite u)) E2 Y2.fin) q3O y1M);
      }
