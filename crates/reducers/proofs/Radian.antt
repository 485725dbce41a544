-- The radian reducer, at every word.
use Rattle.std.proofs.Common.{◌≡◌, ℕ, zero, suc, ◌+◌, ◌-◌, ◌*◌, ◌%◌, ◌^◌, ◌<◌, ◌≤◌, Bool, true, false, cond, not, ◌&&◌, T, eqb, ltb, leb, ◌≢◌, ◌⊎◌, [], ◌∷◌, ℤ, pos, negsuc, ◌+ℤ◌, ◌-ℤ◌, nat_abs, sym, refl, ap, ◌∙◌, subst, inl, inr, le_trans, le_of_eq, le_refl, le_of_suc-le-suc, not-suc-le-zero, lt_of_le_of_lt, mul-le-mul_right, mul_comm, eq-or-lt_of_le, mul-pos, le_of_mul-le-mul_right, arith, lit<, lit≤, eqb→eq, ltb→lt, leb→le, nltb→le, pow_pos, pow-add, to_z-of_z, w64, to_z, of_z}
use lib.Dec.{nleb→lt}
use lib.Signed.{mag}
use lib.Ieee.{Float, binary32, binary64, top, fin, inf, nan, of_bits, of_fields, odd, size, add, sub, mul, fits}
use lib.Ieee.Exact.{HasValue, odd_sign}
use lib.Ieee.Fits.{mul-fits, and_l, and_r}
use lib.Ieee.Scale.{finite}
use lib.Ieee.Bits.{of_bits-fits}
use Rattle.exact.specs.Fraction.{Fraction, ◌≈◌, ◌⊕◌, ◌⊗◌, ◌⊖◌, whole, Size, Within, leq, tiny, frac, size_test}
use Rattle.exact.specs.Value.{value_of, integer, signed}
use Rattle.exact.specs.Multiple.{pw, Multiple, OddMultiple, Apart, Smaller}
use Rattle.exact.specs.Rounded.{error_of, in_range}
use Rattle.exact.proofs.Order.{⊑_trans, ≈→⊑, size-neg, ⊗-cong, by-test, ≈-refl, ≈-sym, ≈-trans, ⊕-cong, size-⊑, size-⊕, size-⊗, size-near, within-⊑, within-≈, size-≈, size-by-test}
use Rattle.exact.proofs.Poly.{var, ◌:+◌, ◌:-◌, same, free}
use Rattle.exact.proofs.Cert.{ring}
use Rattle.exact.proofs.Rounding.{signed-value, flat}
use Rattle.exact.proofs.Multiple.{multiple-≈, multiple-⊖, multiple-⊗, multiple-unit, multiple-trans, pw-mul, pw-le, pw-multiple, two-pw}
use Rattle.exact.proofs.Away.{away, away-small, cast-exact, int-add, int-size, pow_le_back}
use Rattle.exact.proofs.Keep.{apart-≈, apart-⊑, signed-grid}
use Rattle.exact.proofs.Odd.{odd-≈, odd-multiple, odd-apart, odd-clash, Lowest, lowest as lowest-bit}
use Rattle.reducers.specs.Reduce.{part, fmla, nearest_whole, count, wrapped, reduce_small, reduce_from, skips, leading, reduce_large, exponent_of, reduce}
use Rattle.reducers.specs.Exact.{steps_per_radian, radian_steps, field, Reduced}
use Rattle.reducers.proofs.Chain.{chain-small, tailed}
use Rattle.reducers.proofs.Large.{Word, Piece, Found, B1, B2, KH, product-exact, summed}
use Rattle.reducers.proofs.Pieces.{bits, piece0, piece1, piece2, tail-small, odd2}
use Rattle.reducers.proofs.Apart.{term, odd-term, whole-term, sum-keeps, sum-apart}
use Rattle.reducers.proofs.Regions.{region0, region1, region2, region3, within-range, by-range}

-- ---- below 2 ^ 22
pub record FoundSmall (X r : Fraction) (l1 l2 : ℕ) (k y : Float) : Type 0 where
  pub fin : T (finite y)
  pub small : Size (value_of y) (frac 11 16)
  pub fin-k : T (finite k)
  pub whole-k : Multiple (value_of k) (whole 1)
  pub size-k : Size (value_of k) (whole (2 ^ 57 - 1))
  pub near : Within ((value_of k ⊕ value_of y) ⊕ integer (pos 0) ⊗ whole 64) (X ⊗ r) (tiny 52)
  pub far : (v : ℕ) → OddMultiple X (pw v 149) → v ≤ 149 + l1 → Apart (value_of y) (pw v (149 + l2))

pub record SmallTests (b0 b1 b2 bx e t : Fraction) : Type 0 where
  pub r1 : T (in_range binary64 (B1 bx b1))
  pub e1 : T (leq (error_of binary64 (B1 bx b1)) e)
  pub r2 : T (in_range binary64 (B2 bx b1 b2 e))
  pub e2 : T (leq (error_of binary64 (B2 bx b1 b2 e)) e)
  pub last : T (leq (B2 bx b1 b2 e ⊕ e) (frac 11 16))
  pub hi : T (leq (KH bx b0) (whole (2 ^ 57 - 1)))
  pub all : T (leq ((e ⊕ e) ⊕ t ⊗ bx) (tiny 52))

nothing : (X : Fraction) → X ⊗ whole 0 ≈ integer (pos 0) ⊗ whole 64
nothing X = record { eq = omega arith }

module _ (x c0 c1 c2 : Float) (z l0 l1 l2 : ℕ) (b0 b1 b2 bx e t r : Fraction) (w : Word x z) (p0 : Piece c0 l0 b0) (p1 : Piece c1 l1 b1) (p2 : Piece c2 l2 b2) (Z : z ≤ 253) (bound : Size (value_of x) bx) (test : SmallTests b0 b1 b2 bx e t) (tail : Within (whole 0 ⊕ (value_of c0 ⊕ value_of c1 ⊕ value_of c2)) r t) (o2 : OddMultiple (value_of c2) (pw 0 l2)) (L01 : l0 ≤ l1) (L12 : l1 < l2) where
  small : FoundSmall (value_of x) r l1 l2 (nearest_whole (mul binary64 x c0)) (fmla x c2 (fmla x c1 (sub binary64 (mul binary64 x c0) (nearest_whole (mul binary64 x c0)))))
  small =
      let p = mul binary64 x c0 in
      let k = nearest_whole p in
      let y0 = sub binary64 p k in
      let q1 = mul binary64 x c1 in
      let y1 = add binary64 q1 y0 in
      let q2 = mul binary64 x c2 in
      let y2 = add binary64 q2 y1 in
      let P = product-exact x c0 z l0 b0 w p0 Z in
      let Q1 = product-exact x c1 z l1 b1 w p1 Z in
      let Q2 = product-exact x c2 z l2 b2 w p2 Z in
      let K = away binary64 p P.fin (mul-fits binary64 x c0) in
      let Y0 = K.exact in
      let S0 : Size (value_of y0) (frac 1 2) = size-≈ (≈-sym Y0.is) (away-small K) in
      let S1 : Size (value_of q1 ⊕ value_of y0) (B1 bx b1) = size-⊕ (size-≈ (≈-sym Q1.is) (size-⊗ bound p1.size)) S0 in
      let Y1 = summed q1 y0 (B1 bx b1) e Q1.fin Y0.fin S1 test.r1 test.e1 in
      let S2 : Size (value_of q2 ⊕ value_of y1) (B2 bx b1 b2 e) = size-⊕ (size-≈ (≈-sym Q2.is) (size-⊗ bound p2.size)) (size-near Y1.near S1) in
      let Y2 = summed q2 y1 (B2 bx b1 b2 e) e Q2.fin Y1.fin S2 test.r2 test.e2 in
      let C = chain-small (value_of x) (value_of c0) (value_of c1) (value_of c2) (value_of k) (value_of p) (value_of y0) (value_of q1) (value_of y1) (value_of q2) (value_of y2) e P.is Y0.is Q1.is Y1.near Q2.is Y2.near in
      record {
        fin = Y2.fin;
        small = size-⊑ (by-test test.last) (size-near Y2.near S2);
        fin-k = K.fin;
        whole-k = K.integral;
        size-k = size-⊑ (by-test test.hi) (size-near K.near (size-≈ (≈-sym P.is) (size-⊗ bound p0.size)));
        near = within-⊑ (by-test test.all) (tailed (value_of x) (whole 0) (value_of c0 ⊕ value_of c1 ⊕ value_of c2) r (value_of k ⊕ value_of y2) (integer (pos 0) ⊗ whole 64) (e ⊕ e) t bx C (nothing (value_of x)) tail bound);
        far = λ v O V.
            let M = odd-multiple O in
            let pM : Multiple (value_of p) (pw v (149 + l1)) = multiple-≈ (≈-sym P.is) (term (value_of x) (value_of c0) v l0 l1 L01 M p0.grid) in
            let y0M : Multiple (value_of y0) (pw v (149 + l1)) = multiple-≈ (≈-sym Y0.is) (multiple-⊖ pM (whole-term (value_of k) v l1 V K.integral)) in
            let q1M : Multiple (value_of q1) (pw v (149 + l1)) = multiple-≈ (≈-sym Q1.is) (term (value_of x) (value_of c1) v l1 l1 (le_refl l1) M p1.grid) in
            let y1M : Multiple (value_of y1) (pw v (149 + l1)) = sum-keeps q1 y0 v l1 p1.room Q1.fin Y0.fin Y1.fin q1M y0M in
            let q2O : OddMultiple (value_of q2) (pw v (149 + l2)) = odd-≈ (≈-sym Q2.is) (odd-term (value_of x) (value_of c2) v l2 O o2) in
            sum-apart q2 y1 v l1 l2 L12 p2.room Q2.fin Y1.fin Y2.fin q2O y1M;
      }

tests-small : SmallTests (bits 170891319 24) (bits 227401559 55) (bits 20940011 81) (pw 171 149) (tiny 54) (tiny 86)
unfolding lib.Ieee.size leq
tests-small = record { r1 = tt; e1 = tt; r2 = tt; e2 = tt; last = tt; hi = tt; all = tt }

region_small : (x : Float) (z : ℕ) → Word x z → z ≤ 147 → FoundSmall (value_of x) steps_per_radian 55 81 (nearest_whole (mul binary64 x (part 0))) (fmla x (part 2) (fmla x (part 1) (sub binary64 (mul binary64 x (part 0)) (nearest_whole (mul binary64 x (part 0))))))
region_small x z w h = small x (part 0) (part 1) (part 2) z 24 55 81 (bits 170891319 24) (bits 227401559 55) (bits 20940011 81) (pw 171 149) (tiny 54) (tiny 86) steps_per_radian w piece0 piece1 piece2 (omega arith) (within-range x z 147 w h) tests-small tail-small odd2 (lit≤ tt) (lit≤ tt)

-- ---- from floats to whole numbers
-- the patterns add up
pub bits-sum : (a b : ℤ) → nat_abs a < 2 ^ 62 → nat_abs b < 2 ^ 62 → (of_z w64 a + of_z w64 b) % 2 ^ 64 ≡ of_z w64 (a +ℤ b)
bits-sum (pos a) (pos b) h k = omega arith
bits-sum (pos a) (negsuc b) h k = mixed (ltb a (suc b)) (ltb→lt a (suc b)) (nltb→le a (suc b))
  where
    mixed : (t : Bool) → (T t → a < suc b) → (T (not t) → suc b ≤ a) → (a + (2 ^ 64 - suc b)) % 2 ^ 64 ≡ of_z w64 (cond t (negsuc (suc b - suc a)) (pos (a - suc b)))
    mixed true f g = let l = f tt in omega arith
    mixed false f g = let l = g tt in omega arith
bits-sum (negsuc a) (pos b) h k = mixed (ltb b (suc a)) (ltb→lt b (suc a)) (nltb→le b (suc a))
  where
    mixed : (t : Bool) → (T t → b < suc a) → (T (not t) → suc a ≤ b) → ((2 ^ 64 - suc a) + b) % 2 ^ 64 ≡ of_z w64 (cond t (negsuc (suc a - suc b)) (pos (b - suc a)))
    mixed true f g = let l = f tt in omega arith
    mixed false f g = let l = g tt in omega arith
bits-sum (negsuc a) (negsuc b) h k = omega arith

mag-abs : (z : ℤ) → mag z ≤ nat_abs z
mag-abs (pos n) = omega arith
mag-abs (negsuc n) = omega arith

pub wrapped-is : (a b : ℤ) → nat_abs a < 2 ^ 62 → nat_abs b < 2 ^ 62 → nat_abs (a +ℤ b) < 2 ^ 62 → wrapped a b ≡ a +ℤ b
wrapped-is a b h k l = ap (to_z w64) (bits-sum a b h k) ∙ to_z-of_z {w = w64} {z = a +ℤ b} (record { sfits = lt_of_le_of_lt (mag-abs (a +ℤ b)) (le_trans l (lit≤ tt)) })

-- |y| ≤ 11 / 16 is below 3 / 4
strictly : (a : Fraction) → Size a (frac 11 16) → Smaller a (frac 3 4)
strictly a h = record { below = below a.plus a.minus a.den a.ok h.below.le; above = above a.plus a.minus a.den a.ok h.above.le }
  where
    below : (p m d : ℕ) → 0 < d → p * 16 + 0 * d ≤ 11 * d + m * 16 → p * 4 + 0 * d < 3 * d + m * 4
    below p m d k h = omega arith

    above : (p m d : ℕ) → 0 < d → 0 * d + m * 16 ≤ p * 16 + 11 * d → 0 * d + m * 4 < p * 4 + 3 * d
    above p m d k h = omega arith

-- ---- how far y is from zero
signed-nonzero : (s : Bool) (n d : ℕ) (ok : 0 < d) → 0 < n → signed s n d ok ≈ whole 0 → ⊥
signed-nonzero false n d ok h e = absurd (clash e.eq)
  where
    clash : n * 1 + 0 * d ≡ 0 * d + 0 * 1 → ⊥
    clash q = omega arith
signed-nonzero true n d ok h e = absurd (clash e.eq)
  where
    clash : 0 * 1 + 0 * d ≡ 0 * d + n * 1 → ⊥
    clash q = omega arith

place-le : (X : Fraction) (v n b : ℕ) → Apart X (pw v b) → Size X (pw n b) → v ≤ n
place-le X v n b (inl h) s = pow_le_back v n (le_of_mul-le-mul_right (omega (arith, (⊑_trans h s.below).le)) (pow_pos b))
place-le X v n b (inr h) s = pow_le_back v n (le_of_mul-le-mul_right (omega (arith, (⊑_trans h (size-neg s).below).le)) (pow_pos b))

place-ge : (X : Fraction) (v z : ℕ) → OddMultiple X (pw v 149) → Multiple X (pw z 149) → z ≤ v
place-ge X v z o m = by-range v z (λ l. l) (λ l. absurd (odd-clash v 149 o (multiple-unit (≈-sym t) (multiple-trans m (pw-multiple z 149 (1 + v) 149 (z - (1 + v)) (omega arith))))))
  where
    t : whole 2 ⊗ pw v 149 ≈ pw (1 + v) 149
    t = ≈-trans (⊗-cong two-pw (≈-refl (pw v 149))) (pw-mul 1 0 v 149)

not_zero : (y : Fraction) (a b : ℕ) → Apart y (pw a b) → y ≈ whole 0 → ⊥
not_zero y a b h e = go (apart-≈ e h)
  where
    P : 0 < 2 ^ a
    P = pow_pos a

    go : Apart (whole 0) (pw a b) → ⊥
    go (inl q) = absurd (clash (2 ^ a) (2 ^ b) P q.le)
      where
        clash : (g l : ℕ) → 0 < g → g * 1 + 0 * l ≤ 0 * l + 0 * 1 → ⊥
        clash g l p h = omega arith
    go (inr q) = absurd (clash (2 ^ a) (2 ^ b) P q.le)
      where
        clash : (g l : ℕ) → 0 < g → g * 1 + 0 * l ≤ 0 * l + 0 * 1 → ⊥
        clash g l p h = omega arith

finish : (x y : Float) (z l2 l3 : ℕ) → Word x z → T (fits binary32 x) → z + 24 ≤ 149 + l2 → ((v : ℕ) → OddMultiple (value_of x) (pw v 149) → v ≤ 149 + l2 → Apart (value_of y) (pw v (149 + l3)))
    → (value_of x ≈ whole 0 → ⊥) → (value_of y ≈ whole 0 → ⊥) × (149 + l3 ≤ z + 115 → Apart (value_of y) (tiny 115))
finish x y z l2 l3 W f h far nz = go (lowest-bit binary32 x W.fin f)
  where
    go : (value_of x ≈ whole 0) ⊎ Lowest binary32 x → (value_of y ≈ whole 0 → ⊥) × (149 + l3 ≤ z + 115 → Apart (value_of y) (tiny 115))
    go (inl e) = absurd (nz e)
    go (inr L) =
        let v = L.place in
        let o = L.odd in
        let U : v ≤ z + 24 = place-le (value_of x) v (z + 24) 149 (odd-apart v 149 o) W.size in
        let D : z ≤ v = place-ge (value_of x) v z o W.grid in
        let A = far v o (omega arith) in
        (not_zero (value_of y) v (149 + l3) A, λ b. apart-⊑ (⊑_trans (≈→⊑ tiny-pw) (pw-le 0 115 v (149 + l3) (omega arith))) A)
      where
        tiny-pw : tiny 115 ≈ pw 0 115
        tiny-pw = record { eq = refl }

-- for |x| up to 2 ^ -11 k is small
pub per_radian : Size steps_per_radian (whole 11)
unfolding size_test
per_radian = size-by-test steps_per_radian (whole 11) tt

take : (k y m : Fraction) → ((k ⊕ y) ⊕ m) ⊖ (y ⊕ m) ≈ k
unfolding same
take k y m = ring (free k ∷ free y ∷ free m ∷ []) (((var 0 :+ var 1) :+ var 2) :- (var 1 :+ var 2)) (var 0) tt

tiny-k : (w z : ℕ) (k y : Float) → Word (of_bits binary32 w) z → z ≤ 114 → FoundSmall (value_of (of_bits binary32 w)) steps_per_radian 55 81 k y → Size (value_of k) (whole 1)
unfolding leq size_test
tiny-k w z k y W h F =
    let s = size-near F.near (size-⊗ (within-range (of_bits binary32 w) z 114 W h) per_radian) in
    let m = integer (pos 0) ⊗ whole 64 in
    let n : Size m (whole 0) = size-by-test m (whole 0) tt in
    size-⊑ (by-test {a = ((pw 138 149 ⊗ whole 11) ⊕ tiny 52) ⊕ (frac 11 16 ⊕ whole 0)} {b = whole 1} tt) (size-≈ (take (value_of k) (value_of y) m) (size-⊕ s (size-neg (size-⊕ F.small n))))

too_few : (n : ℕ) → n % 32 ≡ 16 → n ≤ 1 → ⊥
too_few n e h = omega arith

pub found-large : (w z l2 l3 : ℕ) (kh kl y : Float) → Word (of_bits binary32 w) z → (value_of (of_bits binary32 w) ≈ whole 0 → ⊥) → z + 24 ≤ 149 + l2 → 149 + l3 ≤ z + 115 → Found (value_of (of_bits binary32 w)) steps_per_radian l2 l3 kh kl y → Reduced w y (wrapped (count kh) (count kl))
found-large w z l2 l3 kh kl y W NZ V2 V3 F =
    let far = finish (of_bits binary32 w) y z l2 l3 W (of_bits-fits binary32 w) V2 F.far NZ in
    let a = count kh in
    let b = count kl in
    let A : integer a ≈ value_of kh = cast-exact 63 (2 ^ 57 - 1) kh F.fin-hi F.whole-hi F.size-hi (lit< tt) in
    let B : integer b ≈ value_of kl = cast-exact 63 (2 ^ 57 - 1) kl F.fin-lo F.whole-lo F.size-lo (lit< tt) in
    let S : integer (a +ℤ b) ≈ value_of kh ⊕ value_of kl = ≈-trans (int-add a b) (⊕-cong A B) in
    let na : nat_abs a ≤ 2 ^ 57 - 1 = int-size a (2 ^ 57 - 1) (size-≈ (≈-sym A) F.size-hi) in
    let nb : nat_abs b ≤ 2 ^ 57 - 1 = int-size b (2 ^ 57 - 1) (size-≈ (≈-sym B) F.size-lo) in
    let ns : nat_abs (a +ℤ b) ≤ 2 ^ 57 - 1 = int-size (a +ℤ b) (2 ^ 57 - 1) (size-≈ (≈-sym S) F.few) in
    subst (λ k. Reduced w y k) (sym (wrapped-is a b (lt_of_le_of_lt na (lit< tt)) (lt_of_le_of_lt nb (lit< tt)) (lt_of_le_of_lt ns (lit< tt))))
    (record {
      fin = F.fin;
      small = strictly (value_of y) F.small;
      few = lt_of_le_of_lt ns (lit< tt);
      turns = F.turns;
      near = within-≈ (⊕-cong (⊕-cong (≈-sym S) (≈-refl (value_of y))) (≈-refl (integer F.turns ⊗ whole 64))) (≈-refl (radian_steps (of_bits binary32 w))) F.near;
      nonzero = λ n. far.0;
      apart = λ q. far.1 V3;
    })

pub found-small : (w z : ℕ) (k y : Float) → Word (of_bits binary32 w) z → z ≤ 147 → (115 ≤ z → value_of (of_bits binary32 w) ≈ whole 0 → ⊥) → FoundSmall (value_of (of_bits binary32 w)) steps_per_radian 55 81 k y → Reduced w y (count k)
found-small w z k y W V NZ F =
    let far = finish (of_bits binary32 w) y z 55 81 W (of_bits-fits binary32 w) (omega arith) F.far in
    let a = count k in
    let A : integer a ≈ value_of k = cast-exact 63 (2 ^ 57 - 1) k F.fin-k F.whole-k F.size-k (lit< tt) in
    let na : nat_abs a ≤ 2 ^ 57 - 1 = int-size a (2 ^ 57 - 1) (size-≈ (≈-sym A) F.size-k) in
    record {
      fin = F.fin;
      small = strictly (value_of y) F.small;
      few = lt_of_le_of_lt na (lit< tt);
      turns = pos 0;
      near = within-≈ (⊕-cong (⊕-cong (≈-sym A) (≈-refl (value_of y))) (≈-refl (integer (pos 0) ⊗ whole 64))) (≈-refl (radian_steps (of_bits binary32 w))) F.near;
      nonzero = λ n. (far n).0;
      apart = λ q. by-range 114 z (λ l. absurd (too_few (nat_abs a) q (int-size a 1 (size-≈ (≈-sym A) (tiny-k w z k y W l F))))) (λ l. (far (NZ l)).1 (omega arith));
    }

-- ---- a word's float
word_at : (x : Float) (s : Bool) (m z : ℕ) → m ≤ 2 ^ 24 → HasValue x s (m * 2 ^ z) (2 ^ 149) → Word x z
word_at x s m z h v =
    let g = signed-value x s (m * 2 ^ z) (2 ^ 149) (pow_pos 149) v in
    let b : m * 2 ^ z ≤ 2 ^ (z + 24) = le_trans (mul-le-mul_right (2 ^ z) h) (le_of_eq (mul_comm (2 ^ 24) (2 ^ z) ∙ sym (pow-add 2 z 24))) in
    record {
      fin = g.0;
      grid = multiple-≈ (≈-sym g.1) (signed-grid s m (2 ^ z) (2 ^ 149) (pow_pos 149));
      size = size-≈ (≈-sym g.1) (flat s (m * 2 ^ z) (2 ^ 149) (2 ^ (z + 24)) (pow_pos 149) (mul-le-mul_right (2 ^ 149) b));
    }

word_fields : (s : Bool) (x t : ℕ) → x < 255 → t < 8388608 → Word (of_fields binary32 s x t) (x - 1)
unfolding of_fields
word_fields s zero t h k = word_at (odd 24 s t 0 149) s t 0 (omega arith) (odd_sign 24 s t 0 149)
word_fields s (suc x) t h k = subst (λ z. Word (of_fields binary32 s (suc x) t) z) (less x) (go (eqb (suc x) 255) (eqb→eq (suc x) 255))
  where
    less : (x : ℕ) → x ≡ suc x - 1
    less x = omega arith

    go : (b : Bool) → (T b → suc x ≡ 255) → Word (cond b (cond (eqb t 0) (inf s) nan) (odd 24 s (8388608 + t) x 149)) x
    go true f = absurd (clash (f tt))
      where
        clash : suc x ≡ 255 → ⊥
        clash e = omega arith
    go false f = word_at (odd 24 s (8388608 + t) x 149) s (8388608 + t) x (omega arith) (odd_sign 24 s (8388608 + t) x 149)

pub word_of : (w : ℕ) → field w < 255 → Word (of_bits binary32 w) (field w - 1)
unfolding of_bits
word_of w h = word_fields (leb (top binary32) w) (field w) (w % 8388608) h (omega arith)

nonzero-fields : (s : Bool) (x t : ℕ) → 0 < x → x < 255 → value_of (of_fields binary32 s x t) ≈ whole 0 → ⊥
unfolding of_fields
nonzero-fields s zero t p h e = absurd (not-suc-le-zero p)
nonzero-fields s (suc x) t p h e = go (eqb (suc x) 255) (eqb→eq (suc x) 255) e
  where
    clash : suc x ≡ 255 → ⊥
    clash e = omega arith

    go : (b : Bool) → (T b → suc x ≡ 255) → value_of (cond b (cond (eqb t 0) (inf s) nan) (odd 24 s (8388608 + t) x 149)) ≈ whole 0 → ⊥
    go true f e = absurd (clash (f tt))
    go false f e =
        let g = signed-value (odd 24 s (8388608 + t) x 149) s ((8388608 + t) * 2 ^ x) (2 ^ 149) (pow_pos 149) (odd_sign 24 s (8388608 + t) x 149) in
        signed-nonzero s ((8388608 + t) * 2 ^ x) (2 ^ 149) (pow_pos 149) (mul-pos (omega arith) (pow_pos x)) (≈-trans (≈-sym g.1) e)

pub word-nonzero : (w : ℕ) → 0 < field w → field w < 255 → value_of (of_bits binary32 w) ≈ whole 0 → ⊥
unfolding of_bits
word-nonzero w p h = nonzero-fields (leb (top binary32) w) (field w) (w % 8388608) p h

-- ---- how many constants are skipped, for each of the exponents
all_below : ℕ → (ℕ → Bool) → Bool
all_below zero P = true
all_below (suc n) P = P n && all_below n P

below_at : (n : ℕ) (P : ℕ → Bool) → T (all_below n P) → (k : ℕ) → k < n → T (P k)
unfolding all_below
below_at zero P t k h = absurd (not-suc-le-zero h)
below_at (suc n) P t k h = elim (eq-or-lt_of_le (le_of_suc-le-suc h)) [ inl e ↦ subst (λ j. T (P j)) (sym e) (and_l (P n) (all_below n P) t) | inr l ↦ below_at n P (and_r (P n) (all_below n P) t) k l ]

unfoldable pub which : ℕ → ℕ
which x = cond (leb x 179) 0 (cond (leb x 210) 1 (cond (leb x 236) 2 3))

skip_test : ℕ → Bool
unfolding which
skip_test x = eqb (skips leading (pos x -ℤ pos 127)) (which x)

pub skips-is : (x : ℕ) → x < 255 → skips leading (pos x -ℤ pos 127) ≡ which x
unfolding skip_test all_below
skips-is x h = eqb→eq (skips leading (pos x -ℤ pos 127)) (which x) (below_at 255 skip_test tt x h)

from-range : (w x : ℕ) → field w ≡ x → x < 255 → 149 ≤ x → Reduced w (reduce_from (which x) (of_bits binary32 w)).0 (reduce_from (which x) (of_bits binary32 w)).1
unfolding which reduce_from
from-range w x e h g = go (leb x 179) (leb→le x 179) (nleb→lt x 179)
  where
    W : Word (of_bits binary32 w) (x - 1)
    W = subst (λ y. Word (of_bits binary32 w) (y - 1)) e (word_of w (subst (λ y. y < 255) (sym e) h))

    NZ : value_of (of_bits binary32 w) ≈ whole 0 → ⊥
    NZ = word-nonzero w (subst (λ y. 0 < y) (sym e) (omega arith)) (subst (λ y. y < 255) (sym e) h)

    go3 : (t : Bool) → (T t → x ≤ 236) → (T (not t) → 236 < x) → 210 < x → Reduced w (reduce_from (cond t 2 3) (of_bits binary32 w)).0 (reduce_from (cond t 2 3) (of_bits binary32 w)).1
    go3 true a b l = let k = a tt in found-large w (x - 1) 143 170 _ _ _ W NZ (omega arith) (omega arith) (region2 (of_bits binary32 w) (x - 1) W (omega arith) (omega arith))
    go3 false a b l = let k = b tt in found-large w (x - 1) 170 200 _ _ _ W NZ (omega arith) (omega arith) (region3 (of_bits binary32 w) (x - 1) W (omega arith) (omega arith))

    go2 : (t : Bool) → (T t → x ≤ 210) → (T (not t) → 210 < x) → 179 < x → Reduced w (reduce_from (cond t 1 (cond (leb x 236) 2 3)) (of_bits binary32 w)).0 (reduce_from (cond t 1 (cond (leb x 236) 2 3)) (of_bits binary32 w)).1
    go2 true a b l = let k = a tt in found-large w (x - 1) 114 143 _ _ _ W NZ (omega arith) (omega arith) (region1 (of_bits binary32 w) (x - 1) W (omega arith) (omega arith))
    go2 false a b l = go3 (leb x 236) (leb→le x 236) (nleb→lt x 236) (b tt)

    go : (t : Bool) → (T t → x ≤ 179) → (T (not t) → 179 < x) → Reduced w (reduce_from (cond t 0 (cond (leb x 210) 1 (cond (leb x 236) 2 3))) (of_bits binary32 w)).0 (reduce_from (cond t 0 (cond (leb x 210) 1 (cond (leb x 236) 2 3))) (of_bits binary32 w)).1
    go true a b = let k = a tt in found-large w (x - 1) 81 114 _ _ _ W NZ (omega arith) (omega arith) (region0 (of_bits binary32 w) (x - 1) W (omega arith))
    go false a b = go2 (leb x 210) (leb→le x 210) (nleb→lt x 210) (b tt)

-- every finite word
pub radian : (w : ℕ) → field w ≢ 255 → Reduced w (reduce (of_bits binary32 w) (w % 2147483648)).0 (reduce (of_bits binary32 w) (w % 2147483648)).1
unfolding reduce_small
radian w ne = go (ltb (w % 2147483648) 1249902592) (ltb→lt (w % 2147483648) 1249902592) (nltb→le (w % 2147483648) 1249902592)
  where
    H : field w < 255
    H = omega arith

    same : field w % 256 ≡ field w
    same = omega arith

    X : Float
    X = of_bits binary32 w

    b : ℕ
    b = w % 2147483648

    skip : skips leading (exponent_of (w % 2147483648)) ≡ which (field w)
    skip = ap (λ y. skips leading (pos y -ℤ pos 127)) same ∙ skips-is (field w) H

    go : (t : Bool) → (T t → w % 2147483648 < 1249902592) → (T (not t) → 1249902592 ≤ w % 2147483648)
        → Reduced w (cond t (reduce_small (of_bits binary32 w)) (reduce_large (of_bits binary32 w) (exponent_of (w % 2147483648)))).0 (cond t (reduce_small (of_bits binary32 w)) (reduce_large (of_bits binary32 w) (exponent_of (w % 2147483648)))).1
    go true f g = let k = f tt in found-small w (field w - 1) _ _ (word_of w H) (omega arith) (λ l. word-nonzero w (omega arith) H) (region_small (of_bits binary32 w) (field w - 1) (word_of w H) (omega arith))
    go false f g = let k = g tt in subst (λ i. Reduced w (reduce_from i (of_bits binary32 w)).0 (reduce_from i (of_bits binary32 w)).1) (sym skip) (from-range w (field w) refl H (omega arith))

pub radian-at : (x : Float) (b : ℕ) (r : Float × ℤ) → r ≡ reduce x b → (w : ℕ) → x ≡ of_bits binary32 w → b ≡ w % 2147483648 → (field w ≡ 255 → ⊥) → Reduced w r.0 r.1
radian-at x b r e w X B ne = subst (λ (v : Float × ℤ). Reduced w v.0 v.1) (sym (e ∙ ap (λ v. reduce v b) X ∙ ap (λ v. reduce (of_bits binary32 w) v) B)) (radian w ne)

-- ---- half turns from 2 ^ 24 on: 32 x is a number of whole turns
pub whole-turns : (w : ℕ) → 151 ≤ field w → field w < 255 → Multiple (whole 32 ⊗ value_of (of_bits binary32 w)) (whole 64)
whole-turns w h l = multiple-unit e (multiple-⊗ {a = whole 32} {u = pw 5 0} (record { p = 1; m = 0; is = record { eq = refl } }) (multiple-trans (word_of w l).grid (pw-multiple (field w - 1) 149 150 149 (field w - 1 - 150) (omega arith))))
  where
    e : pw 5 0 ⊗ pw 150 149 ≈ whole 64
    e = record { eq = refl }
