-- A sum with 1.5 * 2 ^ 52 counts in ones: what it leaves is the nearest whole number, where it is nearer than a half.
use Rattle.std.proofs.Common.{◌≡◌, ℕ, ◌+◌, ◌-◌, ◌*◌, ◌/◌, ◌%◌, ◌^◌, ◌<◌, ◌≤◌, min, Bool, true, false, not, T, ltb, leb, ◌≢◌, ℤ, pos, ◌-ℤ◌, neg_ℤ, sym, refl, ap, ◌∙◌, subst, inl, inr, zero-lt-suc, lt_of_mul-lt-mul_right, mul-pos, lt_of_not-le, mul-one, not-le_of_lt, mul-div_cancel, arith, lit<, lit≤, ltb→lt, nltb→le, pow_pos, w64, SFits, to_z, of_z}
use native.Mathlib.Nat.{min-eq_left}
use Rattle.std.proofs.lemmas.Int.{ints, to_z-of_z, to_z_pos}
use lib.Count.{count_trailing_zeros}
use lib.Ieee.{Float, binary64, nan, inf, fin, up, down, add, sub, neg as negate, lt, is_nan, fits, odd, of_fields, of_bits, to_bits, to_signed}
use lib.Ieee.Exact.{HasValue}
use lib.Ieee.Back.{whole_unique}
use lib.Ieee.Bits.{is_false, of_bits-to_bits}
use lib.Ieee.Fits.{down_pos, add-fits, sub-fits}
use lib.Ieee.Scale.{finite}
use Rattle.std.specs.Float.{float_round}
use Rattle.exact.specs.Fraction.{Fraction, ◌≈◌, ◌⊑◌, ◌⊖◌, whole, frac, Size, Within}
use Rattle.exact.specs.Value.{value_of, Same}
use Rattle.exact.specs.Multiple.{dif, pw, Multiple, Apart}
use Rattle.exact.proofs.Order.{≈-trans, ≈-sym, ≈-refl, ⊗-one, ⊑_trans, ⊕-cong, neg_cong, within-≈}
use Rattle.exact.proofs.Rounding.{signed-value, sub-rounded, rounded-of}
use Rattle.exact.proofs.Multiple.{exact-at, pw-le}
use Rattle.exact.proofs.Keep.{rounded-apart, apart-⊑, apart-≈}
use Rattle.exact.specs.Laws.{Away}
use Rattle.exact.proofs.Away.{away}
use Rattle.rounding.specs.Round.{exponent_field}
use Rattle.rounding.proofs.Fields.{fields, sign, pattern-is}
use Rattle.rounding.proofs.Rounds.{value-whole, away-fits}

abbrev shift : Float
shift = of_bits binary64 4843621399236968448

abbrev half : Float
half = of_bits binary64 4602678819172646912

abbrev sum_of : Float → Float
sum_of x = add binary64 x shift

abbrev whole_of : Float → Float
whole_of x = sub binary64 (sum_of x) shift

abbrev rest_of : Float → Float
rest_of x = sub binary64 x (whole_of x)

no : false ≡ true → ⊥
no e = subst (λ b. T (not b)) e tt

-- ---- a rest between -1 / 2 and 1 / 2 is finite, and so is all that it comes from
rest-finite : (r : Float) → lt (negate half) r ≡ true → lt r half ≡ true → T (finite r)
unfolding lt negate of_bits of_fields odd count_trailing_zeros
rest-finite nan a b = no a
rest-finite (inf true) a b = no a
rest-finite (inf false) a b = no b
rest-finite (fin s m e) a b = tt

-- a finite sum has finite parts
left-finite : (x y : Float) → T (finite (add binary64 x y)) → T (finite x)
unfolding add
left-finite nan y h = h
left-finite (inf s) nan h = h
left-finite (inf true) (inf true) h = h
left-finite (inf true) (inf false) h = h
left-finite (inf false) (inf true) h = h
left-finite (inf false) (inf false) h = h
left-finite (inf s) (fin t n d) h = h
left-finite (fin s m e) y h = tt

right-finite : (x y : Float) → T (finite (add binary64 x y)) → T (finite y)
unfolding add
right-finite nan y h = absurd h
right-finite (inf s) nan h = h
right-finite (inf true) (inf true) h = h
right-finite (inf true) (inf false) h = h
right-finite (inf false) (inf true) h = h
right-finite (inf false) (inf false) h = h
right-finite (inf s) (fin t n d) h = tt
right-finite (fin s m e) nan h = h
right-finite (fin s m e) (inf t) h = h
right-finite (fin s m e) (fin t n d) h = tt

neg-finite : (x : Float) → T (finite (negate x)) → T (finite x)
unfolding negate
neg-finite nan h = h
neg-finite (inf s) h = h
neg-finite (fin s m e) h = tt

finite-nan : (x : Float) → T (finite x) → T (not (is_nan x))
unfolding is_nan
finite-nan nan h = absurd h
finite-nan (inf s) h = absurd h
finite-nan (fin s m e) h = tt

record Finite (x : Float) : Type 0 where
  pub arg : T (finite x)
  pub sum : T (finite (sum_of x))
  pub whole : T (finite (whole_of x))
  pub rest : T (finite (rest_of x))

all-finite : (x : Float) → lt (negate half) (rest_of x) ≡ true → lt (rest_of x) half ≡ true → Finite x
unfolding sub
all-finite x a b =
    let r = rest-finite (rest_of x) a b in
    let w = neg-finite (whole_of x) (right-finite x (negate (whole_of x)) r) in
    record { arg = left-finite x (negate (whole_of x)) r; sum = left-finite (sum_of x) (negate shift) w; whole = w; rest = r }

pub sum-is-number : (x : Float) → lt (negate half) (rest_of x) ≡ true → lt (rest_of x) half ≡ true → T (not (is_nan (sum_of x)))
sum-is-number x a b = finite-nan (sum_of x) (all-finite x a b).sum

-- ---- the rest is below 1 / 2 in size, so the exact difference is
less : (a b : ℕ) → ltb a b ≡ true → a < b
less a b e = ltb→lt a b (subst T (sym e) tt)

small : (r : Float) → lt (negate half) r ≡ true → lt r half ≡ true → Apart (value_of r) (frac 1 2) → ⊥
unfolding lt negate of_bits of_fields odd count_trailing_zeros
small nan a b h = no a
small (inf true) a b h = no a
small (inf false) a b h = no b
small (fin false m e) a b (inl h) = omega (arith, less (m * up e * 2) (1 * 1 * down e) b, h.le)
small (fin false m e) a b (inr h) = omega (arith, down_pos e, h.le)
small (fin true m e) a b (inl h) = omega (arith, down_pos e, h.le)
small (fin true m e) a b (inr h) = omega (arith, less (m * up e * 2) (1 * 1 * down e) a, h.le)

half_is : pw 1073 1074 ⊑ frac 1 2
half_is = ⊑_trans (pw-le 1073 1074 0 1 (lit≤ tt)) (record { le = lit≤ tt })

is-half : frac 1 2 ⊑ pw 1073 1074
is-half = ⊑_trans {b = pw 0 1} (record { le = lit≤ tt }) (pw-le 0 1 1073 1074 (lit≤ tt))

-- the exact difference is not 1 / 2 or more
near : (x : Float) → Finite x → lt (negate half) (rest_of x) ≡ true → lt (rest_of x) half ≡ true → Apart (value_of x ⊖ value_of (whole_of x)) (frac 1 2) → ⊥
near x F a b h =
    small (rest_of x) a b (apart-⊑ is-half (rounded-apart binary64 (rest_of x) (value_of x ⊖ value_of (whole_of x)) 1073 (sub-rounded binary64 x (whole_of x) F.arg F.whole) F.rest (apart-⊑ half_is h)))

-- ---- the value of the sum, by its pattern
sum-value : (x : Float) → T (fits binary64 x) → 4842495499330125824 ≤ to_bits binary64 x → to_bits binary64 x < 4844747299143811072 → value_of x ≈ whole (to_bits binary64 x - 4836865999795912704)
unfolding sign
sum-value x h lo hi =
    let b = to_bits binary64 x in
    let s : leb 9223372036854775808 b ≡ false = is_false (leb 9223372036854775808 b) (lib.Arith.lt→nleb 9223372036854775808 b (omega arith)) in
    let j : exponent_field binary64 b ≡ 1075 = omega arith in
    let t = b % 4503599627370496 in
    let p : of_bits binary64 b ≡ of_fields binary64 false 1075 t = pattern-is binary64 b false 1075 t s j refl in
    let v : HasValue x false (4503599627370496 + t) 1 = value-whole x false ((4503599627370496 + t) * 2 ^ 1074) (2 ^ 1074) (4503599627370496 + t) (pow_pos 1074) refl (subst (λ z. HasValue z false ((4503599627370496 + t) * 2 ^ 1074) (2 ^ 1074)) (sym p ∙ of_bits-to_bits binary64 x h) (fields binary64 false 1075 t (lit< tt) (lit< tt))) in
    let q : 4503599627370496 + t ≡ b - 4836865999795912704 = omega arith in
    subst (λ n. value_of x ≈ whole n) q (signed-value x false (4503599627370496 + t) 1 (zero-lt-suc 0) v).1

-- ---- the whole number is exact: what the pattern is more than that of the shift
shift-value : value_of shift ≈ whole 6755399441055744
unfolding of_bits of_fields odd count_trailing_zeros
shift-value = record { eq = refl }

shift-finite : T (finite shift)
unfolding of_bits of_fields odd count_trailing_zeros
shift-finite = tt

whole-value : (x : Float) → Finite x → 4842495499330125824 ≤ to_bits binary64 (sum_of x) → to_bits binary64 (sum_of x) < 4844747299143811072 → Same (whole_of x) (dif (to_bits binary64 (sum_of x) - 4836865999795912704) 6755399441055744)
whole-value x F lo hi =
    let n = to_bits binary64 (sum_of x) - 4836865999795912704 in
    let v : value_of (sum_of x) ⊖ value_of shift ≈ dif n 6755399441055744 = ≈-trans (⊕-cong (sum-value (sum_of x) (add-fits binary64 x shift) lo hi) (neg_cong shift-value)) (record { eq = omega arith }) in
    let M : Multiple (dif n 6755399441055744) (pw 0 0) = record { p = n; m = 6755399441055744; is = record { eq = omega arith } } in
    let S : Size (dif n 6755399441055744) (pw 53 0) = record { below = record { le = omega arith }; above = record { le = omega arith } } in
    exact-at binary64 (whole_of x) (dif n 6755399441055744) 0 0 1074 refl (rounded-of v (sub-rounded binary64 (sum_of x) shift F.sum shift-finite)) M S (lit< tt)

-- ---- a whole number within 1 / 2 of X is the one that is nearer than 1 / 2
one-whole : (X : Fraction) (p m P Q : ℕ) → Within (dif p m) X (frac 1 2) → (Apart (X ⊖ dif P Q) (frac 1 2) → ⊥) → p + Q ≡ P + m
one-whole X p m P Q W h =
    let d = X.den in
    let a : (X.plus * 1 + Q * d) * 2 + 0 * (d * 1) < 1 * (d * 1) + (X.minus * 1 + P * d) * 2 = lt_of_not-le (λ l. h (inl (record { le = l }))) in
    let b : (X.minus * 1 + P * d) * 2 + 0 * (d * 1) < 1 * (d * 1) + (X.plus * 1 + Q * d) * 2 = lt_of_not-le (λ l. h (inr (record { le = l }))) in
    let up_to : (p + Q) * d < (P + m + 1) * d = omega (arith, W.below.le) in
    let down_to : (P + m) * d < (p + Q + 1) * d = omega (arith, W.above.le) in
    omega (arith, lt_of_mul-lt-mul_right d up_to, lt_of_mul-lt-mul_right d down_to)

-- ---- a float that is worth k, or -k
plus-has : (x : Float) (P Q k : ℕ) → T (finite x) → value_of x ≈ dif P Q → P ≡ k + Q → 0 < k → HasValue x false k 1
plus-has nan P Q k f v e p = absurd f
plus-has (inf s) P Q k f v e p = absurd f
plus-has (fin false m d) P Q k f v e p = (refl, omega (arith, ap (λ z. z * down d) e, v.eq))
plus-has (fin true m d) P Q k f v e p = absurd (not-le_of_lt (mul-pos p (down_pos d)) (omega (arith, ap (λ z. z * down d) e, v.eq)))

minus-has : (x : Float) (P Q k : ℕ) → T (finite x) → value_of x ≈ dif P Q → Q ≡ k + P → 0 < k → HasValue x true k 1
minus-has nan P Q k f v e p = absurd f
minus-has (inf s) P Q k f v e p = absurd f
minus-has (fin true m d) P Q k f v e p = (refl, omega (arith, ap (λ z. z * down d) e, v.eq))
minus-has (fin false m d) P Q k f v e p = absurd (not-le_of_lt (mul-pos p (down_pos d)) (omega (arith, ap (λ z. z * down d) e, v.eq)))

-- ---- its cast
plus-cast : (x : Float) (k : ℕ) → HasValue x false k 1 → k < 2 ^ 63 → to_signed 63 x ≡ pos k
unfolding to_signed
plus-cast nan k h l = absurd h
plus-cast (inf s) k h l = absurd h
plus-cast (fin false m e) k h l = ap (λ z. pos (min z 9223372036854775807)) (ap (λ z. z / down e) (sym (mul-one (m * up e)) ∙ h.1) ∙ mul-div_cancel k (down_pos e)) ∙ ap pos (min-eq_left (omega arith))
plus-cast (fin true m e) k h l = absurd (no (sym h.0))

minus-cast : (x : Float) (k : ℕ) → HasValue x true k 1 → k < 2 ^ 63 → to_signed 63 x ≡ neg_ℤ (pos k)
unfolding to_signed
minus-cast nan k h l = absurd h
minus-cast (inf s) k h l = absurd h
minus-cast (fin true m e) k h l = ap (λ z. neg_ℤ (pos (min z 9223372036854775808))) (ap (λ z. z / down e) (sym (mul-one (m * up e)) ∙ h.1) ∙ mul-div_cancel k (down_pos e)) ∙ ap (λ z. neg_ℤ (pos z)) (min-eq_left (omega arith))
minus-cast (fin false m e) k h l = absurd (no h.0)

-- ---- all
pub record Counted (x : Float) : Type 0 where
  pub whole : whole_of x ≡ float_round binary64 x
  pub count : to_z w64 (of_z w64 (to_z w64 (to_bits binary64 (sum_of x)) -ℤ pos 4843621399236968448)) ≡ to_signed 63 (float_round binary64 x)

counted-at : (x : Float) → T (fits binary64 x) → Finite x → (b : ℕ) → b ≡ to_bits binary64 (sum_of x) → 4842495499330125824 ≤ b → b < 4844747299143811072 → b ≢ 4843621399236968448 → (Apart (value_of x ⊖ value_of (whole_of x)) (frac 1 2) → ⊥) → Counted x
counted-at x h F b B lo hi ne nr = go (ltb 4843621399236968448 b) (ltb→lt 4843621399236968448 b) (nltb→le 4843621399236968448 b)
  where
    w : Float
    w = whole_of x

    r : Float
    r = float_round binary64 x

    n : ℕ
    n = b - 4836865999795912704

    V : Same (whole_of x) (dif (b - 4836865999795912704) 6755399441055744)
    V = subst (λ z. Same (whole_of x) (dif (z - 4836865999795912704) 6755399441055744)) (sym B) (whole-value x F (subst (λ z. 4842495499330125824 ≤ z) B lo) (subst (λ z. z < 4844747299143811072) B hi))

    A : Away binary64 (float_round binary64 x) x
    A = away binary64 x F.arg h

    is : value_of (float_round binary64 x) ≈ dif A.integral.p A.integral.m
    is = ≈-trans A.integral.is (⊗-one (dif A.integral.p A.integral.m))

    E : A.integral.p + 6755399441055744 ≡ b - 4836865999795912704 + A.integral.m
    E = one-whole (value_of x) A.integral.p A.integral.m (b - 4836865999795912704) 6755399441055744 (within-≈ is (≈-refl (value_of x)) A.near) (λ g. nr (apart-≈ (⊕-cong (≈-refl (value_of x)) (neg_cong (≈-sym V.is))) g))

    R : value_of (float_round binary64 x) ≈ dif (b - 4836865999795912704) 6755399441055744
    R = ≈-trans is (record { eq = omega (arith, E) })

    bits : to_z w64 (to_bits binary64 (sum_of x)) ≡ pos b
    bits = ap (to_z w64) (sym B) ∙ to_z_pos w64 b (omega arith)

    same : (z : ℤ) → SFits w64 z → pos b -ℤ pos 4843621399236968448 ≡ z → to_z w64 (of_z w64 (to_z w64 (to_bits binary64 (sum_of x)) -ℤ pos 4843621399236968448)) ≡ z
    same z f e = ap (λ k. to_z w64 (of_z w64 (k -ℤ pos 4843621399236968448))) bits ∙ ap (λ k. to_z w64 (of_z w64 k)) e ∙ to_z-of_z w64 z f

    more : (k : ℕ) → b ≡ 4843621399236968448 + k → 0 < k → Counted x
    more k e p =
        let u = plus-has (whole_of x) (b - 4836865999795912704) 6755399441055744 k V.fin V.is (omega arith) p in
        let v = plus-has (float_round binary64 x) (b - 4836865999795912704) 6755399441055744 k A.fin R (omega arith) p in
        record {
          whole = whole_unique binary64 (whole_of x) (float_round binary64 x) false k (sub-fits binary64 (sum_of x) shift) (away-fits binary64 x) u v;
          count = same (pos k) (omega (arith, ints)) (omega (arith, ints)) ∙ sym (plus-cast (float_round binary64 x) k v (omega arith));
        }

    fewer : (k : ℕ) → b + k ≡ 4843621399236968448 → 0 < k → Counted x
    fewer k e p =
        let u = minus-has (whole_of x) (b - 4836865999795912704) 6755399441055744 k V.fin V.is (omega arith) p in
        let v = minus-has (float_round binary64 x) (b - 4836865999795912704) 6755399441055744 k A.fin R (omega arith) p in
        record {
          whole = whole_unique binary64 (whole_of x) (float_round binary64 x) true k (sub-fits binary64 (sum_of x) shift) (away-fits binary64 x) u v;
          count = same (neg_ℤ (pos k)) (omega (arith, ints)) (omega (arith, ints)) ∙ sym (minus-cast (float_round binary64 x) k v (omega arith));
        }

    go : (t : Bool) → (T t → 4843621399236968448 < b) → (T (not t) → b ≤ 4843621399236968448) → Counted x
    go true f g = let l = f tt in more (b - 4843621399236968448) (omega arith) (omega arith)
    go false f g = let l = g tt in let m : b < 4843621399236968448 = lib.Arith.lt_of_le-ne l ne in fewer (4843621399236968448 - b) (omega arith) (omega arith)

pub counted : (x : Float) → T (fits binary64 x) → lt (negate half) (rest_of x) ≡ true → lt (rest_of x) half ≡ true → 4842495499330125824 ≤ to_bits binary64 (sum_of x) → to_bits binary64 (sum_of x) < 4844747299143811072 → to_bits binary64 (sum_of x) ≢ 4843621399236968448 → Counted x
counted x h a b lo hi ne = let F = all-finite x a b in counted-at x h F (to_bits binary64 (sum_of x)) refl lo hi ne (near x F a b)
