-- The tangent by the table, but for odd quarter turns, before narrowing.
use Rattle.std.proofs.Common.{◌≡◌, ℕ, suc, ◌+◌, ◌-◌, ◌*◌, ◌%◌, ◌^◌, ◌<◌, ◌≤◌, true, false, T, [], ◌∷◌, refl, ap, mul-le-mul_right, mul-pos, le_of_mul-le-mul_right, arith, ltb→lt}
use native.Mathlib.Nat.{le_dest}
use native.Mathlib.Decide.{dec_le}
use lib.Count.{count_trailing_zeros}
use lib.Ieee.{Float, nan, inf, fin, binary64, of_bits, of_fields, odd, size, up, down, add, mul, div, neg as negate}
use lib.Ieee.Fits.{up_pos}
use lib.Ieee.Scale.{finite}
use Rattle.exact.specs.Fraction.{Fraction, ◌≈◌, ◌⊑◌, ◌⊕◌, ◌⊗◌, ◌⊖◌, neg, whole, frac, tiny, abs, Size, Within, leq, size_test}
use Rattle.exact.specs.Value.{value_of, signed, Good, Held}
use Rattle.exact.specs.Rounded.{Rounded, in_range, error_of}
use Rattle.exact.proofs.Order.{by-test, ≈-refl, ≈-sym, ≈-trans, ≈→⊑, ≈→⊒, ⊑_trans, ⊕-cong, ⊗-cong, ⊗-assoc, ⊗-one, ⊗-comm, nonneg, nonneg⁻, diff, abs-size, size-⊑, size-≈, size-⊕, size-⊗, size-neg, size-near, size-by-test, size→within, within→size, triangle, within-⊑, within-≈, within-⊕, within-sym, within-refl, within-mul-right}
use Rattle.exact.proofs.More.{not_zero}
use Rattle.exact.proofs.Poly.{Expr, var, con, ◌:+◌, ◌:*◌, ◌:-◌, minus, free, Env, same, small, le, hyp, num, ◌+c◌, ◌*c◌}
use Rattle.exact.proofs.Cert.{ring, prove}
use Rattle.exact.proofs.Bound.{bound}
use Rattle.exact.proofs.Rounding.{rounded-near, add-rounded, mul-rounded, div-rounded, nonzero, finite-neg, value-neg}
use Rattle.circle.specs.Series.{sin_series, cos_series}
use Rattle.circle.specs.Circle.{step, exact_sine, exact_cosine, Alike}
use Rattle.circle.proofs.Steady.{sin_one, cos_one}
use Rattle.circle.proofs.Turn.{turn-sine, turn-cosine}
use Rattle.circle.proofs.Mirror.{sine-at-most-one, cosine-at-most-one, alike-sine, alike-cosine}
use Rattle.table.specs.Tangents.{table_tangent, TangentNear, tan_of_y, tangent64}
use Rattle.table.proofs.Tangents.{table_tangent_lem}
use Rattle.formulas.specs.Words.{one, fmla}
use Rattle.formulas.proofs.TangentNarrowed.{abs-pos, room_for}
use Rattle.formulas.proofs.TangentNear.{one-step, step-angle, steps-near, steps-held}

-- ---- dividing by what is positive
positive : (j : ℕ) (d : Fraction) → tiny j ⊑ d → d.minus < d.plus
positive j d h =
    elim (dec_le (suc d.minus) d.plus) [ yes k ↦ k | no k ↦ absurd (clash (2 ^ j) (mul-le-mul_right (2 ^ j) (under k)) h.le) ]
  where
    under : (suc d.minus ≤ d.plus → ⊥) → d.plus ≤ d.minus
    under k = omega arith

    clash : (P : ℕ) → d.plus * P ≤ d.minus * P → 1 * d.den + d.minus * P ≤ d.plus * P + 0 * d.den → ⊥
    clash P k l = omega (arith, d.ok)

pub divided : (j : ℕ) (d y : Fraction) → tiny j ⊑ d → whole 0 ⊑ y ⊗ d → whole 0 ⊑ y
divided j d y h k =
    let p = positive j d h in
    let q : d.minus ≤ d.plus = omega (arith, p) in
    let r = le_dest q in
    let l : 0 < r.0 = more r.0 d.minus d.plus r.1 p in
    nonneg (le_of_mul-le-mul_right {k = r.0} (go y.plus y.minus d.plus d.minus r.0 r.1 (nonneg⁻ k)) l)
  where
    more : (r m p : ℕ) → m + r ≡ p → m < p → 0 < r
    more r m p e h = omega arith

    go : (yp ym dp dm r : ℕ) → dm + r ≡ dp → yp * dm + ym * dp ≤ yp * dp + ym * dm → ym * r ≤ yp * r
    go yp ym dp dm r e h = omega (arith, ap (λ z. yp * z) e, ap (λ z. ym * z) e)

-- 1 / y
record Inverse (y : Float) : Type 0 where
  at : Fraction
  is : at ⊗ value_of y ≈ whole 1

inverse-of : (y : Float) → T (nonzero y) → Inverse y
inverse-of nan p = absurd p
inverse-of (inf s) p = absurd p
inverse-of (fin true m e) p = record { at = signed true (down e) (m * up e) (mul-pos (ltb→lt 0 m p) (up_pos e)); is = record { eq = omega arith } }
inverse-of (fin false m e) p = record { at = signed false (down e) (m * up e) (mul-pos (ltb→lt 0 m p) (up_pos e)); is = record { eq = omega arith } }

-- the quotient v, of which the float is the rounding
pub record Quotient (x y : Float) : Type 0 where
  pub at : Fraction
  pub is : at ⊗ value_of y ≈ value_of x
  pub rounded : Rounded binary64 (div binary64 x y) at

pub quotient-of : (x y : Float) → T (finite x) → T (nonzero y) → Quotient x y
quotient-of x y p q =
    let i = inverse-of y q in
    let e : (value_of x ⊗ i.at) ⊗ value_of y ≈ value_of x = ≈-trans (⊗-assoc (value_of x) i.at (value_of y)) (≈-trans (⊗-cong (≈-refl (value_of x)) i.is) (⊗-one (value_of x))) in
    record { at = value_of x ⊗ i.at; is = e; rounded = div-rounded binary64 x y (value_of x ⊗ i.at) p q e }

-- ---- an angle within 2 ^ -50 steps
stirred : (whole 1024 ⊗ tiny 60) ⊗ step ⊕ tiny 70 ⊑ tiny 52
unfolding step leq
stirred = by-test {a = (whole 1024 ⊗ tiny 60) ⊗ step ⊕ tiny 70} {b = tiny 52} tt

-- the distance before narrowing, with room for the angle
abbrev pub Ahead : Fraction → Fraction → Type 0
Ahead q v = Within (q ⊗ exact_cosine v) (exact_sine v) (tiny 26 ⊕ abs q ⊗ tiny 37)

room : (b : Fraction) → whole 0 ⊑ b → (tiny 52 ⊗ b ⊕ (tiny 26 ⊕ b ⊗ tiny 37)) ⊕ tiny 52 ⊑ tiny 25 ⊕ b ⊗ tiny 36
unfolding same
room b h =
    prove (free b ∷ []) (le (con (whole 0)) (var 0) ∷ []) (h, tt) ((con (tiny 52) :* var 0 :+ (con (tiny 26) :+ var 0 :* con (tiny 37))) :+ con (tiny 52)) (con (tiny 25) :+ var 0 :* con (tiny 36))
    (num 32767 (2 ^ 52) *c hyp 0 +c num 67108863 (2 ^ 52)) tt

pub moved : (q v u : Fraction) → Alike v u (whole 1024 ⊗ tiny 60) → Ahead q v → Within (q ⊗ exact_cosine u) (exact_sine u) (tiny 25 ⊕ abs q ⊗ tiny 36)
moved q v u A w =
    let c = whole 1024 ⊗ tiny 60 in
    let C = exact_cosine u in
    let D = exact_cosine v in
    let a : Within C D (tiny 52) = within-sym (within-⊑ stirred (alike-cosine v u c A)) in
    let b : Within (exact_sine v) (exact_sine u) (tiny 52) = within-⊑ stirred (alike-sine v u c A) in
    within-⊑ (room (abs q) (abs-pos q)) (triangle (triangle (within-≈ (⊗-comm C q) (⊗-comm D q) (within-mul-right a (abs-size q))) w) b)

-- ---- the parts of an angle k + y, and the tangents t of y and x of k, rounded sum n and rest d
abbrev rest : Expr → Expr → Expr → Expr → Expr → Expr → Expr
rest h j n d e f =
    (var 4 :+ var 1 :* var 5) :* h :+ (var 2 :+ var 0 :* var 3) :* j :+ n :* var 6 :+ (var 0 :+ var 1) :* e :- d :* var 7 :- (con (whole 1) :- var 0 :* var 1) :* f

-- t, x, the cosine and the sine of y, those of k, those of k + y; and the errors
abbrev errors : (t x c s k j C S h i n d e f : Fraction) → Env
errors t x c s k j C S h i n d e f =
    record { at = t; cap = frac 1 13 } ∷ record { at = x; cap = frac 41 4 } ∷ record { at = c; cap = whole 1 } ∷ record { at = s; cap = whole 1 } ∷
    record { at = k; cap = whole 1 } ∷ record { at = j; cap = whole 1 } ∷ record { at = C; cap = whole 1 } ∷ record { at = S; cap = whole 1 } ∷
    record { at = h; cap = tiny 50 ⊕ tiny 38 } ∷ record { at = i; cap = tiny 48 } ∷ record { at = n; cap = tiny 49 } ∷ record { at = d; cap = tiny 50 } ∷
    record { at = e; cap = tiny 68 } ∷ record { at = f; cap = tiny 68 } ∷ []

rest-small : (t x c s k j C S h i n d e f : Fraction) → T (small (errors t x c s k j C S h i n d e f) (tiny 33) (rest (var 8) (var 9) (var 10) (var 11) (var 12) (var 13)))
unfolding small leq
rest-small t x c s k j C S h i n d e f = tt

abbrev h_e : Expr
h_e = var 0 :* var 2 :- var 3

abbrev i_e : Expr
i_e = var 1 :* var 4 :- var 5

abbrev n_e : Expr
n_e = var 8 :- (var 0 :+ var 1)

abbrev d_e : Expr
d_e = var 9 :- (con (whole 1) :- var 0 :* var 1)

abbrev e_e : Expr
e_e = var 6 :- (var 4 :* var 2 :- var 5 :* var 3)

abbrev f_e : Expr
f_e = var 7 :- (var 5 :* var 2 :+ var 4 :* var 3)

rest-same : T (same 10 (rest h_e i_e n_e d_e e_e f_e) (var 8 :* var 6 :- var 9 :* var 7))
unfolding same
rest-same = tt

module _ (t x c s k j C S n d : Fraction) (ht : Size t (frac 1 13)) (hx : Size x (frac 41 4)) (hc : Size c (whole 1)) (hs : Size s (whole 1)) (hk : Size k (whole 1)) (hj : Size j (whole 1)) (hC : Size C (whole 1)) (hS : Size S (whole 1))
    (p : Within (t ⊗ c) s (tiny 50 ⊕ tiny 38)) (q : Within (x ⊗ k) j (tiny 48)) (N : Within n (t ⊕ x) (tiny 49)) (D : Within d (whole 1 ⊖ t ⊗ x) (tiny 50))
    (A : Within C (k ⊗ c ⊖ j ⊗ s) (tiny 68)) (B : Within S (j ⊗ c ⊕ k ⊗ s) (tiny 68)) where
  crossed : Size (n ⊗ C ⊖ d ⊗ S) (tiny 33)
  crossed =
      size-≈ (ring (free t ∷ free x ∷ free c ∷ free s ∷ free k ∷ free j ∷ free C ∷ free S ∷ free n ∷ free d ∷ []) (rest h_e i_e n_e d_e e_e f_e) (var 8 :* var 6 :- var 9 :* var 7) rest-same)
      (bound (errors t x c s k j C S (t ⊗ c ⊖ s) (x ⊗ k ⊖ j) (n ⊖ (t ⊕ x)) (d ⊖ (whole 1 ⊖ t ⊗ x)) (C ⊖ (k ⊗ c ⊖ j ⊗ s)) (S ⊖ (j ⊗ c ⊕ k ⊗ s)))
      (ht, (hx, (hc, (hs, (hk, (hj, (hC, (hS, (within→size p, (within→size q, (within→size N, (within→size D, (within→size A, (within→size B, tt))))))))))))))
      (tiny 33) (rest (var 8) (var 9) (var 10) (var 11) (var 12) (var 13)) (rest-small t x c s k j C S (t ⊗ c ⊖ s) (x ⊗ k ⊖ j) (n ⊖ (t ⊕ x)) (d ⊖ (whole 1 ⊖ t ⊗ x)) (C ⊖ (k ⊗ c ⊖ j ⊗ s)) (S ⊖ (j ⊗ c ⊕ k ⊗ s))))

-- d is at least 1 / 5
apart : (z d : Fraction) → z ⊑ frac 41 52 → whole 1 ⊖ z ⊑ d ⊕ tiny 50 → frac 1 5 ⊑ d
unfolding same
apart z d h k = prove (free z ∷ free d ∷ []) (le (var 0) (con (frac 41 52)) ∷ le (con (whole 1) :- var 0) (var 1 :+ con (tiny 50)) ∷ []) (h, (k, tt)) (con (frac 1 5)) (var 1) (hyp 0 +c hyp 1 +c num (3 * 2 ^ 50 - 260) (260 * 2 ^ 50)) tt

eighth : {d : Fraction} → frac 1 5 ⊑ d → tiny 3 ⊑ d
unfolding leq
eighth h = ⊑_trans (by-test tt) h

-- v d = n
module _ (v n d : Fraction) (e : v ⊗ d ≈ n) (hd : frac 1 5 ⊑ d) where
  below_of : n ⊑ whole 11 → v ⊑ whole 64
  unfolding same
  below_of h =
      diff (divided 3 d (whole 64 ⊖ v) (eighth hd)
      (prove (free v ∷ free n ∷ free d ∷ []) (le (var 0 :* var 2) (var 1) ∷ le (con (frac 1 5)) (var 2) ∷ le (var 1) (con (whole 11)) ∷ []) (≈→⊑ e, (hd, (h, tt))) (con (whole 0)) ((con (whole 64) :- var 0) :* var 2) (hyp 0 +c num 64 1 *c hyp 1 +c hyp 2 +c num 9 5) tt))

  above_of : neg (whole 11) ⊑ n → neg (whole 64) ⊑ v
  unfolding same
  above_of h =
      diff (divided 3 d (v ⊖ neg (whole 64)) (eighth hd)
      (prove (free v ∷ free n ∷ free d ∷ []) (le (var 1) (var 0 :* var 2) ∷ le (con (frac 1 5)) (var 2) ∷ le (con (neg (whole 11))) (var 1) ∷ []) (≈→⊒ e, (hd, (h, tt))) (con (whole 0)) ((var 0 :- con (neg (whole 64))) :* var 2) (hyp 0 +c num 64 1 *c hyp 1 +c hyp 2 +c num 9 5) tt))

  quotient-size : Size n (whole 11) → Size v (whole 64)
  quotient-size h = record { below = below_of h.below; above = above_of h.above }

  -- what is left of the tangent's equation
  left_below : (C S : Fraction) → n ⊗ C ⊖ d ⊗ S ⊑ tiny 33 → v ⊗ C ⊖ S ⊑ tiny 30
  unfolding same
  left_below C S h =
      let e' : v ⊗ d ⊗ C ≈ n ⊗ C = ⊗-cong e (≈-refl C) in
      diff (divided 3 d (tiny 30 ⊖ (v ⊗ C ⊖ S)) (eighth hd)
      (prove (free v ∷ free n ∷ free d ∷ free C ∷ free S ∷ []) (le (var 0 :* var 2 :* var 3) (var 1 :* var 3) ∷ le (con (frac 1 5)) (var 2) ∷ le (var 1 :* var 3 :- var 2 :* var 4) (con (tiny 33)) ∷ []) (≈→⊑ e', (hd, (h, tt))) (con (whole 0)) ((con (tiny 30) :- (var 0 :* var 3 :- var 4)) :* var 2)
      (hyp 0 +c num 1 (2 ^ 30) *c hyp 1 +c hyp 2 +c num 3 (5 * 2 ^ 33)) tt))

  left-above : (C S : Fraction) → neg (tiny 33) ⊑ n ⊗ C ⊖ d ⊗ S → neg (tiny 30) ⊑ v ⊗ C ⊖ S
  unfolding same
  left-above C S h =
      let e' : v ⊗ d ⊗ C ≈ n ⊗ C = ⊗-cong e (≈-refl C) in
      diff (divided 3 d ((v ⊗ C ⊖ S) ⊖ neg (tiny 30)) (eighth hd)
      (prove (free v ∷ free n ∷ free d ∷ free C ∷ free S ∷ []) (le (var 1 :* var 3) (var 0 :* var 2 :* var 3) ∷ le (con (frac 1 5)) (var 2) ∷ le (con (neg (tiny 33))) (var 1 :* var 3 :- var 2 :* var 4) ∷ []) (≈→⊒ e', (hd, (h, tt))) (con (whole 0)) (((var 0 :* var 3 :- var 4) :- con (neg (tiny 30))) :* var 2)
      (hyp 0 +c num 1 (2 ^ 30) *c hyp 1 +c hyp 2 +c num 3 (5 * 2 ^ 33)) tt))

  quotient-left : (C S : Fraction) → Size (n ⊗ C ⊖ d ⊗ S) (tiny 33) → Within (v ⊗ C) S (tiny 30)
  quotient-left C S h = size→within (record { below = left_below C S h.below; above = left-above C S h.above })

-- ---- the floats
pub one-is : value_of one ≈ whole 1
unfolding of_bits of_fields odd count_trailing_zeros
one-is = record { eq = refl }

pub one-finite : T (finite one)
unfolding of_bits of_fields odd count_trailing_zeros
one-finite = tt

pub one_size : Size (value_of one) (whole 1)
unfolding size_test
one_size = size-≈ (≈-sym one-is) (size-by-test (whole 1) (whole 1) tt)

in_eleven : T (in_range binary64 (whole 11))
unfolding size
in_eleven = tt

error_eleven : error_of binary64 (whole 11) ⊑ tiny 49
unfolding size leq
error_eleven = by-test {a = error_of binary64 (whole 11)} {b = tiny 49} tt

in_two : T (in_range binary64 (whole 2))
unfolding size
in_two = tt

error-two : error_of binary64 (whole 2) ⊑ tiny 51
unfolding size leq
error-two = by-test {a = error_of binary64 (whole 2)} {b = tiny 51} tt

in_sixty_four : T (in_range binary64 (whole 64))
unfolding size
in_sixty_four = tt

error-sixty-four : error_of binary64 (whole 64) ⊑ tiny 47
unfolding size leq
error-sixty-four = by-test {a = error_of binary64 (whole 64)} {b = tiny 47} tt

good-⊑ : {r : Float} {a e d : Fraction} → e ⊑ d → Good r a e → Good r a d
good-⊑ l g = record { fin = g.fin; near = within-⊑ l g.near }

-- the tangents of y and of k as floats: sum, product, rest
module _ (ty tk : Float) (ht : Held ty (frac 1 13)) (hk : Held tk (frac 41 4)) where
  abbrev t : Fraction
  t = value_of ty

  abbrev x : Fraction
  x = value_of tk

  sum-good : Good (add binary64 ty tk) (t ⊕ x) (tiny 49)
  unfolding leq
  sum-good = good-⊑ error_eleven (rounded-near binary64 (add binary64 ty tk) (t ⊕ x) (whole 11) (add-rounded binary64 ty tk ht.fin hk.fin) (size-⊑ (by-test {a = frac 1 13 ⊕ frac 41 4} {b = whole 11} tt) (size-⊕ ht.size hk.size)) in_eleven)

  sum-size : Size (value_of (add binary64 ty tk)) (whole 11)
  unfolding leq
  sum-size = size-⊑ (by-test {a = (frac 1 13 ⊕ frac 41 4) ⊕ tiny 49} {b = whole 11} tt) (size-near sum-good.near (size-⊕ ht.size hk.size))

  opposite-size : Size (value_of (negate tk)) (frac 41 4)
  opposite-size = size-≈ (≈-sym (value-neg tk)) (size-neg hk.size)

  product-size : Size (t ⊗ value_of (negate tk)) (frac 41 52)
  unfolding leq
  product-size = size-⊑ (by-test {a = frac 1 13 ⊗ frac 41 4} {b = frac 41 52} tt) (size-⊗ ht.size opposite-size)

  product-good : Good (mul binary64 ty (negate tk)) (t ⊗ value_of (negate tk)) (tiny 51)
  unfolding leq
  product-good = good-⊑ error-two (rounded-near binary64 (mul binary64 ty (negate tk)) (t ⊗ value_of (negate tk)) (whole 2) (mul-rounded binary64 ty (negate tk) ht.fin (finite-neg tk hk.fin)) (size-⊑ (by-test {a = frac 41 52} {b = whole 2} tt) product-size) in_two)

  rest-good : Good (fmla ty (negate tk) one) (value_of (mul binary64 ty (negate tk)) ⊕ value_of one) (tiny 51)
  unfolding leq
  rest-good =
      good-⊑ error-two (rounded-near binary64 (fmla ty (negate tk) one) (value_of (mul binary64 ty (negate tk)) ⊕ value_of one) (whole 2) (add-rounded binary64 (mul binary64 ty (negate tk)) one product-good.fin one-finite)
      (size-⊑ (by-test {a = (frac 41 52 ⊕ tiny 51) ⊕ whole 1} {b = whole 2} tt) (size-⊕ (size-near product-good.near product-size) one_size)) in_two)

  turned : t ⊗ value_of (negate tk) ⊕ value_of one ≈ whole 1 ⊖ t ⊗ x
  unfolding same
  turned = ≈-trans (⊕-cong (⊗-cong (≈-refl t) (value-neg tk)) one-is) (ring (free t ∷ free x ∷ []) (var 0 :* minus (var 1) :+ con (whole 1)) (con (whole 1) :- var 0 :* var 1) tt)

  rest-near : Within (value_of (fmla ty (negate tk) one)) (whole 1 ⊖ t ⊗ x) (tiny 50)
  unfolding leq size_test
  rest-near =
      within-⊑ (by-test {a = tiny 51 ⊕ (tiny 51 ⊕ whole 0)} {b = tiny 50} tt)
      (within-≈ (≈-refl (value_of (fmla ty (negate tk) one))) turned (triangle rest-good.near (within-⊕ product-good.near (within-refl (≈-refl (value_of one))))))

  rest-apart : frac 1 5 ⊑ value_of (fmla ty (negate tk) one)
  unfolding leq
  rest-apart = apart (t ⊗ x) (value_of (fmla ty (negate tk) one)) (size-⊑ (by-test {a = frac 1 13 ⊗ frac 41 4} {b = frac 41 52} tt) (size-⊗ ht.size hk.size)).below rest-near.above

  rest-nonzero : T (nonzero (fmla ty (negate tk) one))
  rest-nonzero = not_zero (fmla ty (negate tk) one) rest-good.fin (λ e. clash (⊑_trans rest-apart (≈→⊑ e)))
    where
      clash : frac 1 5 ⊑ whole 0 → ⊥
      clash h = omega (arith, h.le)

-- ---- at k + y
module _ (y : Float) (k : ℕ) (H : Held y (frac 3 4)) (l : k < 64) (o : k % 32 ≡ 16 → ⊥) where
  abbrev a : Fraction
  a = value_of y ⊗ step

  abbrev v : Fraction
  v = whole k ⊕ value_of y

  E : TangentNear (table_tangent k) k
  E = table_tangent_lem k l

  hk : Held (table_tangent k) (frac 41 4)
  hk = record { fin = E.fin; size = E.size o }

  ht : Held (tan_of_y y) (frac 1 13)
  ht = steps-held y H

  abbrev n : Float
  n = add binary64 (tan_of_y y) (table_tangent k)

  abbrev d : Float
  d = fmla (tan_of_y y) (negate (table_tangent k)) one

  cross : Size (value_of n ⊗ exact_cosine v ⊖ value_of d ⊗ exact_sine v) (tiny 33)
  cross =
      crossed (value_of (tan_of_y y)) (value_of (table_tangent k)) (cos_series a) (sin_series a) (exact_cosine (whole k)) (exact_sine (whole k)) (exact_cosine v) (exact_sine v) (value_of n) (value_of d)
      ht.size hk.size (cos_one a (step-angle y H)) (sin_one a (step-angle y H)) (cosine-at-most-one (whole k)) (sine-at-most-one (whole k)) (cosine-at-most-one v) (sine-at-most-one v)
      (steps-near y H) (E.near o) (sum-good (tan_of_y y) (table_tangent k) ht hk).near (rest-near (tan_of_y y) (table_tangent k) ht hk) (turn-cosine (whole k) (value_of y) (one-step y H)) (turn-sine (whole k) (value_of y) (one-step y H))

  Q : Quotient n d
  Q = quotient-of n d (sum-good (tan_of_y y) (table_tangent k) ht hk).fin (rest-nonzero (tan_of_y y) (table_tangent k) ht hk)

  QSize : Size Q.at (whole 64)
  QSize = quotient-size Q.at (value_of n) (value_of d) Q.is (rest-apart (tan_of_y y) (table_tangent k) ht hk) (sum-size (tan_of_y y) (table_tangent k) ht hk)

  QGood : Good (tangent64 y k) Q.at (tiny 47)
  QGood = good-⊑ error-sixty-four (rounded-near binary64 (tangent64 y k) Q.at (whole 64) Q.rounded QSize in_sixty_four)

  pub far-held : Held (tangent64 y k) (whole (2 ^ 121))
  unfolding leq
  far-held = record { fin = QGood.fin; size = size-⊑ (by-test {a = whole 64 ⊕ tiny 47} {b = whole (2 ^ 121)} tt) (size-near QGood.near QSize) }

  pub far-ahead : Ahead (value_of (tangent64 y k)) v
  unfolding leq
  far-ahead =
      let q = value_of (tangent64 y k) in
      let w = quotient-left Q.at (value_of n) (value_of d) Q.is (rest-apart (tan_of_y y) (table_tangent k) ht hk) (exact_cosine v) (exact_sine v) cross in
      within-⊑ (⊑_trans (by-test {a = tiny 47 ⊗ whole 1 ⊕ tiny 30} {b = tiny 26} tt) (room_for (tiny 26) q 37)) (triangle (within-mul-right QGood.near (cosine-at-most-one v)) w)
