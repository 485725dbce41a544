-- The tangent by the table at odd quarter turns, where the table's tangent is very large, before narrowing.
use Rattle.std.proofs.Common.{◌≡◌, ℕ, ◌+◌, ◌-◌, ◌*◌, ◌%◌, ◌^◌, ◌<◌, T, [], ◌∷◌, subst, inl, inr, arith, lit≤}
use native.Mathlib.Decide.{dec_le}
use lib.Count.{count_trailing_zeros}
use lib.Ieee.{Float, binary64, of_bits, of_fields, odd, size, add, mul, div, neg as negate}
use lib.Ieee.Scale.{finite}
use Rattle.exact.specs.Fraction.{Fraction, ◌≈◌, ◌⊑◌, ◌⊕◌, ◌⊗◌, ◌⊖◌, neg, whole, frac, tiny, abs, Size, Within, leq, size_test, within_test}
use Rattle.exact.specs.Value.{value_of, Good, Held}
use Rattle.exact.specs.Multiple.{pw, Apart}
use Rattle.exact.specs.Rounded.{Rounded, in_range, units, place}
use Rattle.exact.proofs.Order.{by-test, ≈-refl, ≈-sym, ≈-trans, ≈→⊑, ≈→⊒, ⊑_refl, ⊑_trans, ⊕-cong, ⊕-mono, ⊕-zero, zero-⊕, ⊗-mono, ⊗-mono_right, tiny-pos, neg-mono, ⊑-abs, neg-⊑-abs, tiny-mono, diff, abs-size, abs-below, size-⊑, size-≈, size-⊕, size-⊗, size-neg, size-near, size-by-test, size→within, within→size, triangle, within-⊑, within-≈, within-⊕, within-sym, within-refl, within-by-test}
use Rattle.exact.proofs.More.{not_zero}
use Rattle.exact.proofs.Poly.{Expr, var, con, ◌:+◌, ◌:*◌, ◌:-◌, minus, free, Env, val, same, small, le, hyp, num, ◌+c◌, ◌*c◌}
use Rattle.exact.proofs.Cert.{ring, prove}
use Rattle.exact.proofs.Bound.{bound}
use Rattle.exact.proofs.Keep.{apart-⊑, rounded-apart}
use Rattle.exact.proofs.Multiple.{pw-le}
use Rattle.exact.proofs.Rounding.{rounded-held, add-rounded, mul-rounded, nonzero, finite-neg, value-neg}
use Rattle.circle.specs.Series.{sin_series, cos_series}
use Rattle.circle.specs.Circle.{step, quarter, turns, nearest, exact_sine, exact_cosine}
use Rattle.circle.proofs.Steady.{sin_one, cos_one}
use Rattle.circle.proofs.Turn.{turn-sine, turn-cosine}
use Rattle.circle.proofs.Mirror.{sine-at-most-one}
use Rattle.table.specs.Tangents.{table_tangent, TangentNear, tan_of_y, tangent64}
use Rattle.table.proofs.Tangents.{table_tangent_lem}
use Rattle.formulas.specs.Words.{one, fmla}
use Rattle.formulas.proofs.TangentNarrowed.{rounded-part, flipped, abs-⊗, abs-pos, no_size}
use Rattle.formulas.proofs.TangentNear.{one-step, step-angle, steps-near, steps-held, tan_factor, factor-near}
use Rattle.formulas.proofs.TangentFar.{divided, Quotient, quotient-of, Ahead, one-is, one_size, one-finite}

-- ---- rounding by a part of the exact size
in_range_lem : T (in_range binary64 (whole (2 ^ 160)))
unfolding size
in_range_lem = tt

last_less : tiny 1075 ⊑ tiny 200
last_less = tiny-mono 200 1075 (lit≤ tt)

share : (r a : Fraction) → r ⊑ a ⊕ (r ⊗ tiny 53 ⊕ tiny 200) → whole 0 ⊑ a → r ⊗ tiny 53 ⊕ tiny 200 ⊑ a ⊗ tiny 52 ⊕ tiny 199
unfolding same
share r a h k =
    prove (free r ∷ free a ∷ []) (le (var 0) (var 1 :+ (var 0 :* con (tiny 53) :+ con (tiny 200))) ∷ le (con (whole 0)) (var 1) ∷ []) (h, (k, tt)) (var 0 :* con (tiny 53) :+ con (tiny 200)) (var 1 :* con (tiny 52) :+ con (tiny 199))
    (num 1 9007199254740991 *c hyp 0 +c num 4503599627370495 40564819207303336344294875201536 *c hyp 1 +c num 4503599627370495 7237005577332261410504164433547856469848327871021233991364602109098152951808) tt

rounded-share : (r : Float) (a : Fraction) → Rounded binary64 r a → Size a (whole (2 ^ 160)) → Good r a (abs a ⊗ tiny 52 ⊕ tiny 199)
rounded-share r a R h =
    let g = rounded-part binary64 r a (whole (2 ^ 160)) R h in_range_lem in
    let w : Within (value_of r) a (abs (value_of r) ⊗ tiny 53 ⊕ tiny 200) = within-⊑ (⊕-mono (⊑_refl (abs (value_of r) ⊗ tiny 53)) last_less) g.near in
    let k : abs (value_of r) ⊑ abs a ⊕ (abs (value_of r) ⊗ tiny 53 ⊕ tiny 200) = abs-below (value_of r) (abs a ⊕ (abs (value_of r) ⊗ tiny 53 ⊕ tiny 200)) (size-near w (abs-size a)) in
    record { fin = g.fin; near = within-⊑ (share (abs (value_of r)) (abs a) k (abs-pos a)) w }

-- ---- division of sizes by what is positive
size-divided : (j : ℕ) (d x c : Fraction) → tiny j ⊑ d → Size (x ⊗ d) (c ⊗ d) → Size x c
unfolding same
size-divided j d x c h k = record {
  below = diff (divided j d (c ⊖ x) h (prove (free x ∷ free c ∷ free d ∷ []) (le (var 0 :* var 2) (var 1 :* var 2) ∷ []) (k.below, tt) (con (whole 0)) ((var 1 :- var 0) :* var 2) (hyp 0) tt));
  above = diff (divided j d (x ⊖ neg c) h (prove (free x ∷ free c ∷ free d ∷ []) (le (minus (var 1 :* var 2)) (var 0 :* var 2) ∷ []) (k.above, tt) (con (whole 0)) ((var 0 :- minus (var 1)) :* var 2) (hyp 0) tt));
}

-- ---- the tangent of y is not too small
factor-large : (f : Fraction) → frac 1 10 ⊑ f ⊕ (tiny 50 ⊕ frac 1 100) → frac 1 16 ⊑ f
unfolding same
factor-large f h = prove (free f ∷ []) (le (con (frac 1 10)) (var 0 :+ (con (tiny 50) :+ con (frac 1 100))) ∷ []) (h, tt) (con (frac 1 16)) (var 0) (hyp 0 +c num (11 * 2 ^ 50 - 400) (400 * 2 ^ 50)) tt

product-large : (f y : Fraction) → frac 1 16 ⊑ f → tiny 115 ⊑ y → tiny 119 ⊑ f ⊗ y
unfolding same
product-large f y h k = prove (free f ∷ free y ∷ []) (le (con (frac 1 16)) (var 0) ∷ le (con (tiny 115)) (var 1) ∷ []) (h, (k, tt)) (con (tiny 119)) (var 0 :* var 1) (hyp 0 *c hyp 1 +c num 1 (2 ^ 115) *c hyp 0 +c num 1 16 *c hyp 1) tt

product-apart : (f y : Fraction) → frac 1 16 ⊑ f → Apart y (tiny 115) → Apart (f ⊗ y) (tiny 119)
product-apart f y h (inl k) = inl (product-large f y h k)
product-apart f y h (inr k) = inr (⊑_trans (product-large f (neg y) h k) (≈→⊑ (record { eq = omega arith })))

down_to : pw 955 1074 ⊑ tiny 119
down_to = pw-le 955 1074 0 119 (lit≤ tt)

up_to : tiny 119 ⊑ pw 955 1074
up_to = pw-le 0 119 955 1074 (lit≤ tt)

apart-abs : {a c : Fraction} → Apart a c → c ⊑ abs a
apart-abs {a} (inl h) = ⊑_trans h (⊑-abs a)
apart-abs {a} (inr h) = ⊑_trans h (neg-⊑-abs a)

tangent_apart : (y : Float) → Held y (frac 3 4) → Apart (value_of y) (tiny 115) → tiny 119 ⊑ abs (value_of (tan_of_y y))
tangent_apart y H A =
    let f = factor-near y H in
    let a = value_of (tan_factor y) ⊗ value_of y in
    let b : Apart a (tiny 119) = product-apart (value_of (tan_factor y)) (value_of y) (factor-large (value_of (tan_factor y)) f.near.above) A in
    apart-abs (apart-⊑ up_to (rounded-apart binary64 (tan_of_y y) a 955 (mul-rounded binary64 (tan_factor y) y f.fin H.fin) (steps-held y H).fin (apart-⊑ down_to b)))

-- ---- lines
large_product : (b z : Fraction) → tiny 119 ⊑ b → whole (2 ^ 148) ⊑ z → whole (2 ^ 29) ⊑ b ⊗ z
unfolding same
large_product b z h k = prove (free b ∷ free z ∷ []) (le (con (tiny 119)) (var 0) ∷ le (con (whole (2 ^ 148))) (var 1) ∷ []) (h, (k, tt)) (con (whole (2 ^ 29))) (var 0 :* var 1) (hyp 0 *c hyp 1 +c num (2 ^ 148) 1 *c hyp 0 +c num 1 (2 ^ 119) *c hyp 1) tt

rest-line : (m w : Fraction) → whole (2 ^ 29) ⊑ w → m ⊑ (w ⊕ (w ⊗ tiny 52 ⊕ tiny 199)) ⊕ whole 1 → (m ⊗ tiny 52 ⊕ tiny 199) ⊕ ((w ⊗ tiny 52 ⊕ tiny 199) ⊕ whole 1) ⊑ w ⊗ tiny 28
unfolding same
rest-line m w h k =
    prove (free m ∷ free w ∷ []) (le (con (whole (2 ^ 29))) (var 1) ∷ le (var 0) ((var 1 :+ (var 1 :* con (tiny 52) :+ con (tiny 199))) :+ con (whole 1)) ∷ []) (h, (k, tt))
    ((var 0 :* con (tiny 52) :+ con (tiny 199)) :+ ((var 1 :* con (tiny 52) :+ con (tiny 199)) :+ con (whole 1))) (var 1 :* con (tiny 28))
    (num 1 (2 ^ 52) *c hyp 1 +c num 75557854718715068678143 20282409603651670423947251286016 *c hyp 0 +c num 3618501925947836954697001941710572446751811897142147949509248035140948459519 3618502788666131106986593281521497120414687020801267626233049500247285301248) tt

sum-line : (m z : Fraction) → whole (2 ^ 148) ⊑ z → m ⊑ frac 1 13 ⊕ z → (m ⊗ tiny 52 ⊕ tiny 199) ⊕ (frac 1 13 ⊕ whole 0) ⊑ z ⊗ tiny 51
unfolding same
sum-line m z h k =
    prove (free m ∷ free z ∷ []) (le (con (whole (2 ^ 148))) (var 1) ∷ le (var 0) (con (frac 1 13) :+ var 1) ∷ []) (h, (k, tt))
    ((var 0 :* con (tiny 52) :+ con (tiny 199)) :+ (con (frac 1 13) :+ con (whole 0))) (var 1 :* con (tiny 51))
    (num 1 (2 ^ 52) *c hyp 1 +c num 1 (2 ^ 52) *c hyp 0 +c num 827545865385884972546556060915506408905029539610609659186516491116670555350777248421511155 10445097287683436791022753600217556916394319459588153429458944) tt

not_small : (w : Fraction) → whole (2 ^ 29) ⊑ w → w ⊑ whole 0 ⊕ w ⊗ tiny 28 → ⊥
unfolding same
not_small w h k =
    clash (prove (free w ∷ []) (le (con (whole (2 ^ 29))) (var 0) ∷ le (var 0) (con (whole 0) :+ var 0 :* con (tiny 28)) ∷ []) (h, (k, tt)) (con (whole 1)) (con (whole 0)) (num 1 536870910 *c hyp 1 +c num 1 (2 ^ 29) *c hyp 0) tt)
  where
    clash : whole 1 ⊑ whole 0 → ⊥
    clash l = omega (arith, l.le)

-- v, b, z and w for |v b|: what is left of z (v t + 1)
product-line : (v b z w : Fraction) → v ⊗ b ⊑ w → whole 0 ⊑ z → v ⊗ ((b ⊗ z) ⊗ tiny 28) ⊕ z ⊗ tiny 51 ⊑ (w ⊗ tiny 28 ⊕ tiny 51) ⊗ z
unfolding same
product-line v b z w h k = prove (free v ∷ free b ∷ free z ∷ free w ∷ []) (le (var 0 :* var 1) (var 3) ∷ le (con (whole 0)) (var 2) ∷ []) (h, (k, tt)) (var 0 :* ((var 1 :* var 2) :* con (tiny 28)) :+ var 2 :* con (tiny 51)) ((var 3 :* con (tiny 28) :+ con (tiny 51)) :* var 2) (num 1 (2 ^ 28) *c (hyp 1 *c hyp 0)) tt

unit-line : (w : Fraction) → w ⊑ whole 1 ⊕ (w ⊗ tiny 28 ⊕ tiny 51) → w ⊗ tiny 28 ⊕ tiny 51 ⊑ tiny 27
unfolding same
unit-line w h = prove (free w ∷ []) (le (var 0) (con (whole 1) :+ (var 0 :* con (tiny 28) :+ con (tiny 51))) ∷ []) (h, tt) (var 0 :* con (tiny 28) :+ con (tiny 51)) (con (tiny 27)) (num 1 268435455 *c hyp 0 +c num 44739237 12009598961582080) tt

two-line : (w : Fraction) → w ⊑ whole 1 ⊕ (w ⊗ tiny 28 ⊕ tiny 51) → w ⊑ whole 2
unfolding same
two-line w h = prove (free w ∷ []) (le (var 0) (con (whole 1) :+ (var 0 :* con (tiny 28) :+ con (tiny 51))) ∷ []) (h, tt) (var 0) (con (whole 2)) (num 268435456 268435455 *c hyp 0 +c num 750599932302677 750599935098880) tt

-- v b at most 2, b at least 2 ^ -119
quotient-line : (v b : Fraction) → v ⊗ b ⊑ whole 2 → tiny 119 ⊑ b → v ⊑ whole (2 ^ 120)
unfolding same
quotient-line v b h k = diff (divided 119 b (whole (2 ^ 120) ⊖ v) k (prove (free v ∷ free b ∷ []) (le (var 0 :* var 1) (con (whole 2)) ∷ le (con (tiny 119)) (var 1) ∷ []) (h, (k, tt)) (con (whole 0)) ((con (whole (2 ^ 120)) :- var 0) :* var 1) (hyp 0 +c num (2 ^ 120) 1 *c hyp 1) tt))

-- the last rounding
last_line : (v b : Fraction) → v ⊗ b ⊑ whole 2 → b ⊑ frac 1 13 → (v ⊗ tiny 52 ⊕ tiny 199) ⊗ b ⊑ tiny 50
unfolding same
last_line v b h k = prove (free v ∷ free b ∷ []) (le (var 0 :* var 1) (con (whole 2)) ∷ le (var 1) (con (frac 1 13)) ∷ []) (h, (k, tt)) ((var 0 :* con (tiny 52) :+ con (tiny 199)) :* var 1) (con (tiny 50)) (num 1 (2 ^ 52) *c hyp 0 +c num 1 (2 ^ 199) *c hyp 1 +c num (13 * 2 ^ 148 - 1) (13 * 2 ^ 199)) tt

held-line : (v : Fraction) → v ⊑ whole (2 ^ 120) → v ⊕ (v ⊗ tiny 52 ⊕ tiny 199) ⊑ whole (2 ^ 121)
unfolding same
held-line v h = prove (free v ∷ []) (le (var 0) (con (whole (2 ^ 120))) ∷ []) (h, tt) (var 0 :+ (var 0 :* con (tiny 52) :+ con (tiny 199))) (con (whole (2 ^ 121))) (num (2 ^ 52 + 1) (2 ^ 52) *c hyp 0 +c num ((2 ^ 120 - 2 ^ 68) * 2 ^ 199 - 1) (2 ^ 199)) tt

parted : (q v t : Fraction) → (v ⊗ t ⊕ whole 1) ⊕ (q ⊖ v) ⊗ t ≈ q ⊗ t ⊕ whole 1
unfolding same
parted q v t = ring (free q ∷ free v ∷ free t ∷ []) ((var 1 :* var 2 :+ con (whole 1)) :+ (var 0 :- var 1) :* var 2) (var 0 :* var 2 :+ con (whole 1)) tt

joined : (v t z d n : Fraction) → v ⊗ d ≈ n → v ⊗ (t ⊗ z ⊖ d) ⊕ (n ⊖ neg z) ≈ (v ⊗ t ⊕ whole 1) ⊗ z
unfolding same
joined v t z d n e =
    ≈-trans (⊕-cong (≈-refl (v ⊗ (t ⊗ z ⊖ d))) (⊕-cong (≈-sym e) (≈-refl (neg (neg z)))))
    (ring (free v ∷ free t ∷ free z ∷ free d ∷ []) (var 0 :* (var 1 :* var 2 :- var 3) :+ (var 0 :* var 3 :- minus (var 2))) ((var 0 :* var 1 :+ con (whole 1)) :* var 2) tt)

-- ---- the floats: tangents ty of y, and tk, very large and negative
module _ (ty tk : Float) (ht : Held ty (frac 1 13)) (fk : T (finite tk)) (sk : Size (value_of tk) (whole (2 ^ 151))) (fk-far : value_of tk ⊑ neg (whole (2 ^ 148))) (ha : tiny 119 ⊑ abs (value_of ty)) where
  abbrev t : Fraction
  t = value_of ty

  abbrev b : Fraction
  b = abs (value_of ty)

  abbrev z : Fraction
  z = value_of (negate tk)

  abbrev m : Float
  m = mul binary64 ty (negate tk)

  abbrev n : Float
  n = add binary64 ty tk

  abbrev d : Float
  d = fmla ty (negate tk) one

  z-large : whole (2 ^ 148) ⊑ value_of (negate tk)
  z-large = ⊑_trans (neg-mono fk-far) (≈→⊒ (value-neg tk))

  z-pos : whole 0 ⊑ value_of (negate tk)
  unfolding leq
  z-pos = ⊑_trans (by-test {a = whole 0} {b = whole (2 ^ 148)} tt) z-large

  z-size : Size (value_of (negate tk)) (value_of (negate tk))
  z-size = record { below = ⊑_refl (value_of (negate tk)); above = flipped z-pos }

  z-held : Size (value_of (negate tk)) (whole (2 ^ 151))
  z-held = size-≈ (≈-sym (value-neg tk)) (size-neg sk)

  minus-z : value_of tk ≈ neg (value_of (negate tk))
  minus-z = record { eq = omega (arith, (value-neg tk).eq) }

  w-large : whole (2 ^ 29) ⊑ b ⊗ z
  w-large = large_product b z ha z-large

  b-small : b ⊑ frac 1 13
  b-small = abs-below t (frac 1 13) ht.size

  -- the product
  product-rounded : Rounded binary64 m (t ⊗ z)
  product-rounded = mul-rounded binary64 ty (negate tk) ht.fin (finite-neg tk fk)

  product-held : Size (t ⊗ z) (whole (2 ^ 151))
  unfolding leq
  product-held = size-⊑ (by-test {a = frac 1 13 ⊗ whole (2 ^ 151)} {b = whole (2 ^ 151)} tt) (size-⊗ ht.size z-held)

  product-size : Size (t ⊗ z) (b ⊗ z)
  product-size = size-⊗ (abs-size t) z-size

  product-good : Good m (t ⊗ z) ((b ⊗ z) ⊗ tiny 52 ⊕ tiny 199)
  unfolding leq
  product-good =
      let g = rounded-share m (t ⊗ z) product-rounded (size-⊑ (by-test {a = whole (2 ^ 151)} {b = whole (2 ^ 160)} tt) product-held) in
      record { fin = g.fin; near = within-⊑ (⊕-mono (⊗-mono (tiny 52) (tiny-pos 52) (abs-below (t ⊗ z) (b ⊗ z) product-size)) (⊑_refl (tiny 199))) g.near }

  product-limit : Size (value_of m) (whole (2 ^ 152))
  unfolding leq size
  product-limit = size-⊑ (by-test {a = units binary64 (place binary64 (whole (2 ^ 151)))} {b = whole (2 ^ 152)} tt) (rounded-held binary64 m (t ⊗ z) (whole (2 ^ 151)) product-rounded product-held tt)

  -- the rest
  rest-good : Good d (value_of m ⊕ value_of one) (abs (value_of m ⊕ value_of one) ⊗ tiny 52 ⊕ tiny 199)
  unfolding leq
  rest-good = rounded-share d (value_of m ⊕ value_of one) (add-rounded binary64 m one product-good.fin one-finite) (size-⊑ (by-test {a = whole (2 ^ 152) ⊕ whole 1} {b = whole (2 ^ 160)} tt) (size-⊕ product-limit one_size))

  one-off : Within (value_of one) (whole 0) (whole 1)
  unfolding within_test
  one-off = within-≈ (≈-sym one-is) (≈-refl (whole 0)) (within-by-test (whole 1) (whole 0) (whole 1) tt)

  rest-near : Within (value_of d) (t ⊗ z) ((b ⊗ z) ⊗ tiny 28)
  rest-near =
      within-⊑ (rest-line (abs (value_of m ⊕ value_of one)) (b ⊗ z) w-large (abs-below (value_of m ⊕ value_of one) ((b ⊗ z ⊕ ((b ⊗ z) ⊗ tiny 52 ⊕ tiny 199)) ⊕ whole 1) (size-⊕ (size-near product-good.near product-size) one_size)))
      (triangle rest-good.near (within-≈ (≈-refl (value_of m ⊕ value_of one)) (⊕-zero (t ⊗ z)) (within-⊕ product-good.near one-off)))

  rest-nonzero : T (nonzero d)
  rest-nonzero = not_zero d rest-good.fin (λ e. not_small (b ⊗ z) w-large (⊑_trans (⊑_trans (⊗-mono_right b (abs-pos t) (⊑-abs z)) (abs-⊗ t z)) (abs-below (t ⊗ z) (whole 0 ⊕ (b ⊗ z) ⊗ tiny 28) (size-near (within-sym rest-near) (no_size e)))))

  -- the sum
  sum-good : Good n (t ⊕ value_of tk) (abs (t ⊕ value_of tk) ⊗ tiny 52 ⊕ tiny 199)
  unfolding leq
  sum-good = rounded-share n (t ⊕ value_of tk) (add-rounded binary64 ty tk ht.fin fk) (size-⊑ (by-test {a = frac 1 13 ⊕ whole (2 ^ 151)} {b = whole (2 ^ 160)} tt) (size-⊕ ht.size sk))

  sum_near : Within (value_of n) (neg z) (z ⊗ tiny 51)
  sum_near =
      within-⊑ (sum-line (abs (t ⊕ value_of tk)) z z-large (abs-below (t ⊕ value_of tk) (frac 1 13 ⊕ z) (size-⊕ ht.size (size-≈ (≈-sym minus-z) (size-neg z-size)))))
      (triangle sum-good.near (within-≈ (≈-refl (t ⊕ value_of tk)) (zero-⊕ (neg z)) (within-⊕ (off t ht.size) (within-refl minus-z))))
    where
      off : (a : Fraction) → Size a (frac 1 13) → Within a (whole 0) (frac 1 13)
      off a h = size→within (size-≈ (≈-sym (⊕-zero a)) h)

  -- the quotient
  Q : Quotient n d
  Q = quotient-of n d sum-good.fin rest-nonzero

  w-at-most : abs Q.at ⊗ b ⊑ abs (Q.at ⊗ t)
  w-at-most = abs-⊗ Q.at t

  unit_size : Size (Q.at ⊗ t ⊕ whole 1) (abs (Q.at ⊗ t) ⊗ tiny 28 ⊕ tiny 51)
  unfolding leq
  unit_size =
      size-divided 0 z (Q.at ⊗ t ⊕ whole 1) (abs (Q.at ⊗ t) ⊗ tiny 28 ⊕ tiny 51) (⊑_trans (by-test {a = tiny 0} {b = whole (2 ^ 148)} tt) z-large)
      (size-⊑ (product-line (abs Q.at) b z (abs (Q.at ⊗ t)) w-at-most z-pos) (size-≈ (joined Q.at t z (value_of d) (value_of n) Q.is) (size-⊕ (size-⊗ (abs-size Q.at) (within→size (within-sym rest-near))) (within→size sum_near))))

  w-line : abs (Q.at ⊗ t) ⊑ whole 1 ⊕ (abs (Q.at ⊗ t) ⊗ tiny 28 ⊕ tiny 51)
  unfolding size_test
  w-line = abs-below (Q.at ⊗ t) (whole 1 ⊕ (abs (Q.at ⊗ t) ⊗ tiny 28 ⊕ tiny 51)) (size-near (size→within {a = Q.at ⊗ t} {b = neg (whole 1)} unit_size) (size-by-test (neg (whole 1)) (whole 1) tt))

  v-by-b : abs Q.at ⊗ b ⊑ whole 2
  v-by-b = ⊑_trans w-at-most (two-line (abs (Q.at ⊗ t)) w-line)

  v-limit : abs Q.at ⊑ whole (2 ^ 120)
  v-limit = quotient-line (abs Q.at) b v-by-b ha

  quotient-good : Good (div binary64 n d) Q.at (abs Q.at ⊗ tiny 52 ⊕ tiny 199)
  unfolding leq
  quotient-good = rounded-share (div binary64 n d) Q.at Q.rounded (size-⊑ (⊑_trans v-limit (by-test {a = whole (2 ^ 120)} {b = whole (2 ^ 160)} tt)) (abs-size Q.at))

  quotient-held : Held (div binary64 n d) (whole (2 ^ 121))
  quotient-held = record { fin = quotient-good.fin; size = size-⊑ (held-line (abs Q.at) v-limit) (size-near quotient-good.near (abs-size Q.at)) }

  -- times t it is nearly -1
  quotient-unit : Size (value_of (div binary64 n d) ⊗ t ⊕ whole 1) (tiny 27 ⊕ tiny 50)
  quotient-unit =
      size-≈ (parted (value_of (div binary64 n d)) Q.at t)
      (size-⊕ (size-⊑ (unit-line (abs (Q.at ⊗ t)) w-line) unit_size) (size-⊑ (last_line (abs Q.at) b v-by-b b-small) (size-⊗ (within→size quotient-good.near) (abs-size t))))

-- ---- the two steps of an odd quarter turn
cosine_16 : Size (exact_cosine (whole 16)) (tiny 80)
unfolding size_test exact_cosine nearest turns quarter sin_series cos_series step
cosine_16 = size-by-test (exact_cosine (whole 16)) (tiny 80) tt

cosine_48 : Size (exact_cosine (whole 48)) (tiny 80)
unfolding size_test exact_cosine nearest turns quarter sin_series cos_series step
cosine_48 = size-by-test (exact_cosine (whole 48)) (tiny 80) tt

table_16 : Size (value_of (table_tangent 16)) (whole (2 ^ 151))
unfolding size_test table_tangent of_bits of_fields odd count_trailing_zeros
table_16 = size-by-test (value_of (table_tangent 16)) (whole (2 ^ 151)) tt

table_48 : Size (value_of (table_tangent 48)) (whole (2 ^ 151))
unfolding size_test table_tangent of_bits of_fields odd count_trailing_zeros
table_48 = size-by-test (value_of (table_tangent 48)) (whole (2 ^ 151)) tt

-- one of the two steps that are a modulo 32
pub at-steps : (P : ℕ → Type 0) (a k : ℕ) → k < 64 → k % 32 ≡ a → P a → P (a + 32) → P k
at-steps P a k l e p q = elim (dec_le k 31) [ yes h ↦ (let i : a ≡ k = omega arith in subst P i p) | no h ↦ (let i : a + 32 ≡ k = omega arith in subst P i q) ]

-- ---- against the sine and the cosine: q, t, the cosine and the sine of y, those of k, those of k + y
abbrev fixed : Expr → Expr → Expr
fixed r f = minus (var 5 :* r :* var 2) :- var 4 :* var 3 :- f

abbrev turning : Expr → Expr → Expr
turning h e = var 5 :* h :+ var 4 :* var 2 :+ e

abbrev parts : (q t c s k j r h e f : Fraction) → Env
parts q t c s k j r h e f =
    record { at = q; cap = whole 0 } ∷ record { at = t; cap = frac 1 13 } ∷ record { at = c; cap = whole 1 } ∷ record { at = s; cap = whole 1 } ∷ record { at = k; cap = tiny 80 } ∷ record { at = j; cap = whole 1 } ∷
    record { at = r; cap = tiny 27 ⊕ tiny 50 } ∷ record { at = h; cap = tiny 50 ⊕ tiny 38 } ∷ record { at = e; cap = tiny 68 } ∷ record { at = f; cap = tiny 68 } ∷ []

fixed-small : (q t c s k j r h e f : Fraction) → T (small (parts q t c s k j r h e f) (tiny 26) (fixed (var 6) (var 9)))
unfolding small leq
fixed-small q t c s k j r h e f = tt

turning-small : (q t c s k j r h e f : Fraction) → T (small (parts q t c s k j r h e f) (tiny 37) (turning (var 7) (var 8)))
unfolding small leq
turning-small q t c s k j r h e f = tt

abbrev r_e : Expr
r_e = var 0 :* var 1 :+ con (whole 1)

abbrev h_e : Expr
h_e = var 1 :* var 2 :- var 3

abbrev e_e : Expr
e_e = var 6 :- (var 4 :* var 2 :- var 5 :* var 3)

abbrev f_e : Expr
f_e = var 7 :- (var 5 :* var 2 :+ var 4 :* var 3)

together-same : T (same 8 (fixed r_e f_e :+ var 0 :* turning h_e e_e) (var 0 :* var 6 :- var 7))
unfolding same
together-same = tt

module _ (q t c s k j C S : Fraction) (hq : Size q (abs q)) (ht : Size t (frac 1 13)) (hc : Size c (whole 1)) (hs : Size s (whole 1)) (hk : Size k (tiny 80)) (hj : Size j (whole 1))
    (R : Size (q ⊗ t ⊕ whole 1) (tiny 27 ⊕ tiny 50)) (h : Within (t ⊗ c) s (tiny 50 ⊕ tiny 38)) (A : Within C (k ⊗ c ⊖ j ⊗ s) (tiny 68)) (B : Within S (j ⊗ c ⊕ k ⊗ s) (tiny 68)) where
  abbrev ρ : Fraction → Env
  ρ p = parts p t c s k j (q ⊗ t ⊕ whole 1) (t ⊗ c ⊖ s) (C ⊖ (k ⊗ c ⊖ j ⊗ s)) (S ⊖ (j ⊗ c ⊕ k ⊗ s))

  fixed-size : Size (val (ρ (whole 0)) (fixed (var 6) (var 9))) (tiny 26)
  fixed-size =
      bound (ρ (whole 0)) (no_size (≈-refl (whole 0)), (ht, (hc, (hs, (hk, (hj, (R, (within→size h, (within→size A, (within→size B, tt)))))))))) (tiny 26) (fixed (var 6) (var 9))
      (fixed-small (whole 0) t c s k j (q ⊗ t ⊕ whole 1) (t ⊗ c ⊖ s) (C ⊖ (k ⊗ c ⊖ j ⊗ s)) (S ⊖ (j ⊗ c ⊕ k ⊗ s)))

  turning-size : Size (val (ρ (whole 0)) (turning (var 7) (var 8))) (tiny 37)
  turning-size =
      bound (ρ (whole 0)) (no_size (≈-refl (whole 0)), (ht, (hc, (hs, (hk, (hj, (R, (within→size h, (within→size A, (within→size B, tt)))))))))) (tiny 37) (turning (var 7) (var 8))
      (turning-small (whole 0) t c s k j (q ⊗ t ⊕ whole 1) (t ⊗ c ⊖ s) (C ⊖ (k ⊗ c ⊖ j ⊗ s)) (S ⊖ (j ⊗ c ⊕ k ⊗ s)))

  together : Within (q ⊗ C) S (tiny 26 ⊕ abs q ⊗ tiny 37)
  together =
      size→within (size-≈ (ring (free q ∷ free t ∷ free c ∷ free s ∷ free k ∷ free j ∷ free C ∷ free S ∷ []) (fixed r_e f_e :+ var 0 :* turning h_e e_e) (var 0 :* var 6 :- var 7) together-same)
      (size-⊕ fixed-size (size-⊗ hq turning-size)))

-- ---- at k + y
module _ (y : Float) (k : ℕ) (H : Held y (frac 3 4)) (l : k < 64) (o : k % 32 ≡ 16) (A : Apart (value_of y) (tiny 115)) where
  abbrev a : Fraction
  a = value_of y ⊗ step

  E : TangentNear (table_tangent k) k
  E = table_tangent_lem k l

  limit : Size (value_of (table_tangent k)) (whole (2 ^ 151))
  limit = at-steps (λ i. Size (value_of (table_tangent i)) (whole (2 ^ 151))) 16 k l o table_16 table_48

  pub quarter-held : Held (tangent64 y k) (whole (2 ^ 121))
  quarter-held = quotient-held (tan_of_y y) (table_tangent k) (steps-held y H) E.fin limit (E.far o) (tangent_apart y H A)

  pub quarter-ahead : Ahead (value_of (tangent64 y k)) (whole k ⊕ value_of y)
  quarter-ahead =
      together (value_of (tangent64 y k)) (value_of (tan_of_y y)) (cos_series a) (sin_series a) (exact_cosine (whole k)) (exact_sine (whole k)) (exact_cosine (whole k ⊕ value_of y)) (exact_sine (whole k ⊕ value_of y))
      (abs-size (value_of (tangent64 y k))) (steps-held y H).size (cos_one a (step-angle y H)) (sin_one a (step-angle y H)) (at-steps (λ i. Size (exact_cosine (whole i)) (tiny 80)) 16 k l o cosine_16 cosine_48) (sine-at-most-one (whole k))
      (quotient-unit (tan_of_y y) (table_tangent k) (steps-held y H) E.fin limit (E.far o) (tangent_apart y H A))
      (steps-near y H)
      (turn-cosine (whole k) (value_of y) (one-step y H)) (turn-sine (whole k) (value_of y) (one-step y H))
