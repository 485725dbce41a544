-- The half-turn reducers are exact.
use Rattle.std.proofs.Common.{◌≡◌, ℕ, ◌+◌, ◌-◌, ◌^◌, ◌<◌, ◌≤◌, T, [], ◌∷◌, ℤ, sym, refl, ap, ◌∙◌, subst, arith, lit<, lit≤, to_z-of_z, w64, to_z, of_z}
use lib.Count.{count_trailing_zeros}
use lib.Ieee.{Float, binary64, of_bits, of_fields, odd, size, add, sub, mul, neg as negate, fits, to_signed}
use lib.Signed.{mag}
use Rattle.std.specs.Float.{float_round}
use lib.Ieee.Fits.{add-fits, mul-fits}
use lib.Ieee.Scale.{finite}
use Rattle.exact.specs.Rounded.{Rounded}
use Rattle.exact.specs.Fraction.{Fraction, ◌⊑◌, ◌≈◌, ◌⊕◌, ◌⊗◌, ◌⊖◌, neg, whole, Size, leq, frac, size_test}
use Rattle.exact.specs.Value.{value_of, integer}
use Rattle.exact.specs.Multiple.{pw, Multiple, Smaller}
use Rattle.exact.proofs.Order.{by-test, ≈-refl, ≈-sym, ≈-trans, ⊕-cong, ⊗-cong, neg_cong, size-⊑, size-⊗, size-near, ⊑_trans, ≈→⊑, size-≈, size-by-test, gap, ⊗-comm}
use Rattle.exact.proofs.Poly.{var, con, ◌:+◌, ◌:*◌, ◌:-◌, same, free}
use Rattle.exact.proofs.Cert.{ring}
use Rattle.exact.proofs.Rounding.{add-rounded, mul-rounded}
use Rattle.exact.proofs.Powers.{Same}
use Rattle.exact.proofs.Multiple.{smaller-size, multiple-≈, multiple-unit, multiple-⊗, multiple-⊕, multiple-trans, pw-same, pw-mul, pw-le, pw-multiple, exact-at, one-pw}
use Rattle.exact.proofs.Away.{away, away-small, cast-exact, grid-of}
use Rattle.reducers.specs.Reduce.{thirtytwo, minus_half, nearest_whole, count, fmla, reduce_pi, reduce_quarter}
use Rattle.reducers.specs.Exact.{PiReduced, QuarterReduced}
use Rattle.reducers.proofs.Shared.{pair}
use Rattle.reducers.proofs.Regions.{by-range}

-- ---- times 2 ^ n is exact
scaled_exact : (f-r : Float) (a X C : Fraction) (n p : ℕ) → p ≤ 1074 → n ≤ 24 → a ≈ X ⊗ C → Multiple C (pw n 0) → Size C (pw n 0) → Multiple X (pw p 1074) → Size X (pw (p + 53) 1074) → Rounded binary64 f-r a → Same f-r a
scaled_exact r a X C n p P N e m s M S R =
    exact-at binary64 r a (p + n) 1074 (p + n) refl R
    (multiple-≈ (≈-sym e) (multiple-unit (≈-trans (pw-mul p 1074 n 0) (pw-same (p + n) (1074 + 0) (p + n) 1074 (omega arith))) (multiple-⊗ M m)))
    (size-≈ (≈-sym e) (size-⊑ (≈→⊑ (≈-trans (pw-mul (p + 53) 1074 n 0) (pw-same (p + 53 + n) (1074 + 0) (p + n + 53) 1074 (omega arith)))) (size-⊗ S s)))
    (omega arith)

thirtytwo-is : value_of thirtytwo ≈ whole 32
unfolding of_bits of_fields odd count_trailing_zeros size
thirtytwo-is = record { eq = refl }

thirtytwo-grid : Multiple (value_of thirtytwo) (pw 5 0)
unfolding of_bits of_fields odd count_trailing_zeros size
thirtytwo-grid = record { p = 1; m = 0; is = record { eq = refl } }

thirtytwo-size : Size (value_of thirtytwo) (pw 5 0)
unfolding of_bits of_fields odd count_trailing_zeros size size_test
thirtytwo-size = size-by-test (value_of thirtytwo) (pw 5 0) tt

thirtytwo-finite : T (finite thirtytwo)
unfolding of_bits of_fields odd count_trailing_zeros size
thirtytwo-finite = tt

pub pi : (x : Float) → T (finite x) → T (fits binary64 x) → Size (value_of x) (pw 24 0) → PiReduced x (reduce_pi x).0 (reduce_pi x).1
unfolding reduce_pi sub leq
pi x p h z =
    let X = value_of x in
    let C = value_of thirtytwo in
    let G = grid-of binary64 x p h (size-⊑ (pw-le 24 0 53 0 (omega arith)) z) in
    let prod = mul binary64 x thirtytwo in
    let P : Same prod (X ⊗ C) = scaled_exact prod (X ⊗ C) X C 5 G.place G.under (lit≤ tt) (≈-refl (X ⊗ C)) thirtytwo-grid thirtytwo-size G.grid G.size (mul-rounded binary64 x thirtytwo p thirtytwo-finite) in
    let K = away binary64 prod P.fin (mul-fits binary64 x thirtytwo) in
    let k = nearest_whole prod in
    let S : Size (value_of k) (whole (2 ^ 57 - 1)) = size-⊑ (by-test {a = pw 24 0 ⊗ pw 5 0 ⊕ frac 1 2} {b = whole (2 ^ 57 - 1)} tt) (size-near K.near (size-≈ (≈-sym P.is) (size-⊗ z thirtytwo-size))) in
    let A : integer (count k) ≈ value_of k = cast-exact 63 (2 ^ 57 - 1) k K.fin K.integral S (lit< tt) in
    record {
      fin = K.exact.fin;
      small = size-≈ (≈-sym K.exact.is) (away-small K);
      exact = ≈-trans (⊕-cong A K.exact.is) (≈-trans (gap (value_of prod) (value_of k)) (≈-trans P.is (≈-trans (⊗-cong (≈-refl X) thirtytwo-is) (⊗-comm X (whole 32)))));
    }

-- ---- quarter turns
minus_half_is : value_of minus_half ≈ neg (frac 1 2)
unfolding negate of_bits of_fields odd count_trailing_zeros size
minus_half_is = record { eq = refl }

minus_half_grid : Multiple (value_of minus_half) (pw 0 1)
unfolding negate of_bits of_fields odd count_trailing_zeros size
minus_half_grid = record { p = 0; m = 1; is = record { eq = refl } }

minus_half_size : Size (value_of minus_half) (pw 0 1)
unfolding negate of_bits of_fields odd count_trailing_zeros size size_test
minus_half_size = size-by-test (value_of minus_half) (pw 0 1) tt

minus_half_finite : T (finite minus_half)
unfolding negate of_bits of_fields odd count_trailing_zeros size
minus_half_finite = tt

double : (X : Fraction) → X ⊕ X ≈ X ⊗ whole 2
unfolding same
double X = ring (free X ∷ []) (var 0 :+ var 0) (var 0 :* con (whole 2)) tt

two-grid : Multiple (whole 2) (pw 1 0)
two-grid = record { p = 1; m = 0; is = record { eq = refl } }

two_size : Size (whole 2) (pw 1 0)
unfolding size_test
two_size = size-by-test (whole 2) (pw 1 0) tt

-- k (-1/2) + X, where p is 2 X
halved : (X k : Fraction) → k ⊗ neg (frac 1 2) ⊕ X ≈ ((X ⊕ X) ⊖ k) ⊗ frac 1 2
unfolding same
halved X k = ring (free X ∷ free k ∷ []) (var 1 :* con (neg (frac 1 2)) :+ var 0) (((var 0 :+ var 0) :- var 1) :* con (frac 1 2)) tt

less-half : (X k : Fraction) → k ⊗ neg (frac 1 2) ⊕ X ≈ X ⊖ k ⊗ frac 1 2
unfolding same
less-half X k = ring (free X ∷ free k ∷ []) (var 1 :* con (neg (frac 1 2)) :+ var 0) (var 0 :- var 1 :* con (frac 1 2)) tt

half-size : Size (frac 1 2) (pw 0 1)
unfolding size_test
half-size = size-by-test (frac 1 2) (pw 0 1) tt

pub quarter : (x : Float) → T (finite x) → T (fits binary64 x) → Size (value_of x) (pw 23 0) → QuarterReduced x (reduce_quarter x).0 (reduce_quarter x).1
unfolding reduce_quarter leq
quarter x p h z =
    let X = value_of x in
    let C = value_of minus_half in
    let G = grid-of binary64 x p h (size-⊑ (pw-le 23 0 53 0 (omega arith)) z) in
    let q = G.place in
    let d = add binary64 x x in
    let D : Same d (X ⊕ X) = scaled_exact d (X ⊕ X) X (whole 2) 1 q G.under (lit≤ tt) (double X) two-grid two_size G.grid G.size (add-rounded binary64 x x p p) in
    let K = away binary64 d D.fin (add-fits binary64 x x) in
    let k = nearest_whole d in
    let SD : Size (value_of d) (pw 23 0 ⊗ pw 1 0) = size-≈ (≈-sym D.is) (size-≈ (≈-sym (double X)) (size-⊗ z two_size)) in
    let SK : Size (value_of k) (pw 23 0 ⊗ pw 1 0 ⊕ frac 1 2) = size-near K.near SD in
    let S : Size (value_of k) (whole (2 ^ 57 - 1)) = size-⊑ (by-test {a = pw 23 0 ⊗ pw 1 0 ⊕ frac 1 2} {b = whole (2 ^ 57 - 1)} tt) SK in
    let A : integer (count k) ≈ value_of k = cast-exact 63 (2 ^ 57 - 1) k K.fin K.integral S (lit< tt) in
    let m = mul binary64 k minus_half in
    let MG : Multiple (value_of k ⊗ C) (pw 0 1) = multiple-unit (≈-trans (pw-mul 0 0 0 1) (pw-same 0 (0 + 1) 0 1 refl)) (multiple-⊗ (multiple-unit one-pw K.integral) minus_half_grid) in
    let M : Same m (value_of k ⊗ C) = exact-at binary64 m (value_of k ⊗ C) 0 1 1073 refl (mul-rounded binary64 k minus_half K.fin minus_half_finite) MG (size-⊑ (by-test {a = (pw 23 0 ⊗ pw 1 0 ⊕ frac 1 2) ⊗ pw 0 1} {b = pw 53 1} tt) (size-⊗ SK minus_half_size)) (lit< tt) in
    let Y : value_of m ⊕ X ≈ (value_of d ⊖ value_of k) ⊗ frac 1 2 = ≈-trans (⊕-cong (≈-trans M.is (⊗-cong (≈-refl (value_of k)) minus_half_is)) (≈-refl X)) (≈-trans (halved X (value_of k)) (⊗-cong (⊕-cong (≈-sym D.is) (≈-refl (neg (value_of k)))) (≈-refl (frac 1 2)))) in
    let small : Size (value_of m ⊕ X) (frac 1 2 ⊗ pw 0 1) = size-≈ (≈-sym Y) (size-⊗ (away-small K) half-size) in
    let R = add-rounded binary64 m x M.fin p in
    let MM : Multiple (value_of m) (pw 0 1) = multiple-≈ (≈-sym M.is) MG in
    let y : Same (add binary64 m x) (value_of m ⊕ X) = by-range 1073 q
    (λ l. exact-at binary64 (add binary64 m x) (value_of m ⊕ X) q 1074 q refl R (multiple-⊕ (multiple-trans MM (pw-multiple 0 1 q 1074 (1073 - q) (omega arith))) G.grid)
    (size-≈ (≈-sym Y) (size-⊑ (≈→⊑ (back q)) (size-⊗ (K.less (pw (q + 53) 1074 ⊗ pw 1 0) (size-≈ (≈-sym D.is) (size-≈ (≈-sym (double X)) (size-⊗ G.size two_size)))) half-size))) (omega arith))
    (λ l. exact-at binary64 (add binary64 m x) (value_of m ⊕ X) 1073 1074 1073 refl R (multiple-⊕ (multiple-trans MM (pw-multiple 0 1 1073 1074 0 refl)) (multiple-trans G.grid (pw-multiple q 1074 1073 1074 (q - 1073) (omega arith))))
    (size-⊑ (pw-quarter) small) (lit< tt)) in
    record {
      fin = y.fin;
      small = size-≈ (≈-sym y.is) (size-⊑ (by-test {a = frac 1 2 ⊗ pw 0 1} {b = frac 1 4} tt) small);
      exact = ≈-trans y.is (≈-trans (⊕-cong (≈-trans M.is (⊗-cong (≈-refl (value_of k)) minus_half_is)) (≈-refl X)) (≈-trans (less-half X (value_of k)) (⊕-cong (≈-refl X) (neg_cong (⊗-cong (≈-sym A) (≈-refl (frac 1 2)))))));
    }
  where
    back : (q : ℕ) → (pw (q + 53) 1074 ⊗ pw 1 0) ⊗ pw 0 1 ≈ pw (q + 53) 1074
    back q = ≈-trans (⊗-cong (pw-mul (q + 53) 1074 1 0) (≈-refl (pw 0 1))) (≈-trans (pw-mul (q + 53 + 1) (1074 + 0) 0 1) (pw-same (q + 53 + 1 + 0) (1074 + 0 + 1) (q + 53) 1074 (omega arith)))

    pw-quarter : frac 1 2 ⊗ pw 0 1 ⊑ pw (1073 + 53) 1074
    pw-quarter = ⊑_trans (by-test {a = frac 1 2 ⊗ pw 0 1} {b = pw 0 0} tt) (pw-le 0 0 (1073 + 53) 1074 (omega arith))

-- ---- the code's steps together
pub pi-joined : (x kd y : Float) (k : ℤ) → kd ≡ float_round binary64 (mul binary64 x thirtytwo) → y ≡ add binary64 (mul binary64 x thirtytwo) (negate kd) → k ≡ to_signed 63 kd → mag k < 2 ^ 63 → ◌≡◌ {A = Float × ℤ} (y, to_z w64 (of_z w64 k)) (reduce_pi x)
unfolding reduce_pi
pi-joined x kd y k D Y K h = pair (Y ∙ ap (λ v. fmla x thirtytwo (negate v)) D) (to_z-of_z {w = w64} {z = k} (record { sfits = h }) ∙ K ∙ ap count D)

pub quarter-joined : (x kd y : Float) (k : ℤ) → kd ≡ float_round binary64 (add binary64 x x) → y ≡ add binary64 (mul binary64 kd minus_half) x → k ≡ to_signed 63 kd → mag k < 2 ^ 63 → ◌≡◌ {A = Float × ℤ} (y, to_z w64 (of_z w64 k)) (reduce_quarter x)
unfolding reduce_quarter
quarter-joined x kd y k D Y K h = pair (Y ∙ ap (λ v. fmla v minus_half x) D) (to_z-of_z {w = w64} {z = k} (record { sfits = h }) ∙ K ∙ ap count D)

pub pi-at : (x y : Float) (k : ℤ) → ◌≡◌ {A = Float × ℤ} (y, k) (reduce_pi x) → T (fits binary64 x) → T (finite x) → Smaller (value_of x) (whole 16777216) → PiReduced x y k
unfolding leq
pi-at x y k e f p s = subst (λ (v : Float × ℤ). PiReduced x v.0 v.1) (sym e) (pi x p f (size-⊑ (by-test {a = whole 16777216} {b = pw 24 0} tt) (smaller-size (value_of x) (whole 16777216) s)))

pub quarter-at : (x y : Float) (k : ℤ) → ◌≡◌ {A = Float × ℤ} (y, k) (reduce_quarter x) → T (fits binary64 x) → T (finite x) → Smaller (value_of x) (whole 8388608) → QuarterReduced x y k
unfolding leq
quarter-at x y k e f p s = subst (λ (v : Float × ℤ). QuarterReduced x v.0 v.1) (sym e) (quarter x p f (size-⊑ (by-test {a = whole 8388608} {b = pw 23 0} tt) (smaller-size (value_of x) (whole 8388608) s)))
