-- Half turns at whole numbers: the sine is zero, the cosine 1 or -1 by parity.
use Rattle.std.proofs.Common.{◌≡◌, ℕ, zero, suc, ◌+◌, ◌-◌, ◌*◌, ◌/◌, ◌%◌, ◌<◌, ◌≤◌, Bool, true, false, T, eqb, sym, refl, ap, ◌∙◌, subst, mod-eq_of_lt, le_of_mul-le-mul_right, arith, eqb→eq, eq-eqb, ne_eqb}
use native.Mathlib.Nat.{add-mul-mod_self_left, div-add-mod}
use lib.Count.{count_trailing_zeros}
use lib.Ieee.{Float, nan, inf, fin, up, down, binary32, of_bits, of_fields, odd, neg as negate}
use lib.Ieee.Fits.{down_pos}
use lib.Ieee.Scale.{finite}
use Rattle.std.specs.Float.{is_sign_negative, float_with_sign}
use Rattle.exact.specs.Fraction.{Fraction, ◌≈◌, ◌⊑◌, ◌⊕◌, ◌⊗◌, ◌⊖◌, neg, whole, tiny, Size, Within, leq, within_test, size_test}
use Rattle.exact.specs.Value.{value_of, Good}
use Rattle.exact.specs.Multiple.{dif, Multiple}
use Rattle.exact.proofs.Order.{by-test, ≈-refl, ≈-sym, ≈-trans, ⊗-cong, size-by-test, triangle, within-⊑, within-by-test, within-≈, within-sym, within-refl}
use Rattle.exact.proofs.Multiple.{multiple-⊖, multiple-unit, multiple-trans, pw-multiple, one-pw}
use Rattle.circle.specs.Circle.{step, quarter, exact_sine, exact_cosine, Alike}
use Rattle.circle.specs.Series.{sin_series, cos_series}
use Rattle.circle.proofs.Mirror.{alike-sine, alike-cosine}
use Rattle.rounding.specs.Bits.{is_whole, is_odd}
use Rattle.reducers.specs.Exact.{field}
use Rattle.reducers.proofs.Radian.{word_of}
use Rattle.reducers.proofs.Turns.{turns-alike}
use Rattle.formulas.specs.Words.{zero_of}
use Rattle.formulas.proofs.Ways.{unit}
use Rattle.formulas.proofs.Narrowed.{short}
use Rattle.formulas.proofs.Angles.{quarters_on, sine-quarters, cosine-quarters}
use Rattle.formulas.proofs.Quarters.{turns-of}

-- ---- which floats are whole
is-multiple : (x : Float) → T (finite x) → T (is_whole x) → Multiple (value_of x) (whole 1)
is-multiple nan h t = absurd h
is-multiple (inf s) h t = absurd h
is-multiple (fin true m e) h t = record { p = 0; m = m * up e / down e; is = record { eq = go (m * up e) (down e) (m * up e / down e) (m * up e % down e) (div-add-mod (m * up e) (down e)) (eqb→eq (m * up e % down e) 0 t) } }
  where
    go : (n d q r : ℕ) → d * q + r ≡ n → r ≡ 0 → 0 * (1 * 1) + (0 * 0 + q * 1) * d ≡ (0 * 1 + q * 0) * d + n * (1 * 1)
    go n d q r a b = omega arith
is-multiple (fin false m e) h t = record { p = m * up e / down e; m = 0; is = record { eq = go (m * up e) (down e) (m * up e / down e) (m * up e % down e) (div-add-mod (m * up e) (down e)) (eqb→eq (m * up e % down e) 0 t) } }
  where
    go : (n d q r : ℕ) → d * q + r ≡ n → r ≡ 0 → n * (1 * 1) + (q * 0 + 0 * 1) * d ≡ (q * 1 + 0 * 0) * d + 0 * (1 * 1)
    go n d q r a b = omega arith

pub whole_multiple : (x : Float) → T (finite x) → is_whole x ≡ true → Multiple (value_of x) (whole 1)
whole_multiple x h e = is-multiple x h (subst T (sym e) tt)

-- from 2 ^ 23 on all are
pub large-multiple : (w : ℕ) → 150 ≤ field w → field w < 255 → Multiple (value_of (of_bits binary32 w)) (whole 1)
large-multiple w h l = multiple-unit (≈-sym one-pw) (multiple-trans (word_of w l).grid (pw-multiple (field w - 1) 149 0 0 (field w - 1 - 149) (omega arith)))

-- ---- odd or even
parity : (n d a c q b : ℕ) → 0 < d → n + c * d ≡ a * d → a + c ≡ 2 * q + b → b < 2 → eqb (n % (2 * d)) d ≡ eqb b 1
parity n d a c q b D e f B =
    let l : c ≤ a = le_of_mul-le-mul_right {k = d} (omega arith) D in
    let k : c ≤ q = omega arith in
    let g : a ≡ c + 2 * (q - c) + b = omega arith in
    let i : n ≡ b * d + 2 * d * (q - c) = parted (q - c) (ap (λ z. z * d) g) in
    ap (λ z. eqb (z % (2 * d)) d) i ∙ ap (λ z. eqb z d) (add-mul-mod_self_left (b * d) (2 * d) (q - c)) ∙ last b B
  where
    parted : (t : ℕ) → a * d ≡ (c + 2 * t + b) * d → n ≡ b * d + 2 * d * t
    parted t h = omega arith

    last : (b : ℕ) → b < 2 → eqb (b * d % (2 * d)) d ≡ eqb b 1
    last zero h = ap (λ z. eqb z d) (mod-eq_of_lt {n = 0 * d} {m = 2 * d} (omega arith)) ∙ ne_eqb (0 * d) d (λ z. omega arith)
    last (suc zero) h = ap (λ z. eqb z d) (mod-eq_of_lt {n = 1 * d} {m = 2 * d} (omega arith)) ∙ eq-eqb (1 * d) d (omega arith)
    last (suc (suc b)) h = absurd (omega arith)

odd-parity : (x : Float) → T (finite x) → (p m : ℕ) → value_of x ≈ dif p m ⊗ whole 1 → is_odd x ≡ eqb ((p + m) % 2) 1
odd-parity nan h p m e = absurd h
odd-parity (inf s) h p m e = absurd h
odd-parity (fin true n d) h p m e = parity (n * up d) (down d) m p ((p + m) / 2) ((p + m) % 2) (down_pos d) (go (n * up d) (down d) e.eq) (omega arith) (omega arith)
  where
    go : (n d : ℕ) → 0 * (1 * 1) + (p * 0 + m * 1) * d ≡ (p * 1 + m * 0) * d + n * (1 * 1) → n + p * d ≡ m * d
    go n d h = omega arith
odd-parity (fin false n d) h p m e = parity (n * up d) (down d) p m ((p + m) / 2) ((p + m) % 2) (down_pos d) (go (n * up d) (down d) e.eq) (omega arith) (omega arith)
  where
    go : (n d : ℕ) → n * (1 * 1) + (p * 0 + m * 1) * d ≡ (p * 1 + m * 0) * d + 0 * (1 * 1) → n + m * d ≡ p * d
    go n d h = omega arith

-- ---- the angle, whole turns aside
joined : (p m q b : ℕ) → p + m ≡ 2 * q + b → (whole 16 ⊗ whole (2 * b) ⊕ whole 0) ⊕ (whole 64 ⊗ whole q ⊖ whole 64 ⊗ whole m) ≈ whole 32 ⊗ (dif p m ⊗ whole 1)
joined p m q b e = record { eq = omega arith }

wholes-alike : (X : Fraction) (M : Multiple X (whole 1)) → Alike (quarters_on (2 * ((M.p + M.m) % 2)) (whole 0)) (whole 32 ⊗ X) (whole 0)
wholes-alike X M =
    let p = M.p in
    let m = M.m in
    let q = (p + m) / 2 in
    let b = (p + m) % 2 in
    turns-alike (quarters_on (2 * b) (whole 0)) (whole 32 ⊗ X) (whole 0) (whole 64 ⊗ whole q ⊖ whole 64 ⊗ whole m) (multiple-⊖ (turns-of q) (turns-of m))
    (within-refl (≈-trans (joined p m q b (omega arith)) (⊗-cong (≈-refl (whole 32)) (≈-sym M.is))))

-- ---- the exact values
abbrev wholly : Fraction
wholly = (tiny 80 ⊕ tiny 80) ⊕ (whole 0 ⊗ step ⊕ tiny 70)

wholly-short : wholly ⊑ short
unfolding leq step
wholly-short = by-test {a = wholly} {b = short} tt

no_size : Size (whole 0) (whole 8)
unfolding size_test
no_size = size-by-test (whole 0) (whole 8) tt

sine_0 : Within (whole 0) (quarter 0 (whole 0 ⊗ step)) (tiny 80)
unfolding within_test quarter sin_series step
sine_0 = within-by-test (whole 0) (quarter 0 (whole 0 ⊗ step)) (tiny 80) tt

sine_2 : Within (whole 0) (quarter 2 (whole 0 ⊗ step)) (tiny 80)
unfolding within_test quarter sin_series step
sine_2 = within-by-test (whole 0) (quarter 2 (whole 0 ⊗ step)) (tiny 80) tt

cosine_0 : Within (whole 1) (quarter 1 (whole 0 ⊗ step)) (tiny 80)
unfolding within_test quarter cos_series step
cosine_0 = within-by-test (whole 1) (quarter 1 (whole 0 ⊗ step)) (tiny 80) tt

cosine_2 : Within (neg (whole 1)) (quarter 3 (whole 0 ⊗ step)) (tiny 80)
unfolding within_test quarter cos_series step
cosine_2 = within-by-test (neg (whole 1)) (quarter 3 (whole 0 ⊗ step)) (tiny 80) tt

sine-at : (b : ℕ) → b < 2 → Within (whole 0) (quarter (2 * b) (whole 0 ⊗ step)) (tiny 80)
sine-at zero h = sine_0
sine-at (suc zero) h = sine_2
sine-at (suc (suc b)) h = absurd (omega arith)

sine-wholly : (X : Fraction) → Multiple X (whole 1) → Within (whole 0) (exact_sine (whole 32 ⊗ X)) wholly
sine-wholly X M =
    let b = (M.p + M.m) % 2 in
    triangle (triangle (sine-at b (omega arith)) (within-sym (sine-quarters (2 * b) (whole 0) no_size))) (alike-sine (quarters_on (2 * b) (whole 0)) (whole 32 ⊗ X) (whole 0) (wholes-alike X M))

-- 1 or -1
unit-value : Bool → Fraction
unit-value false = whole 1
unit-value true = neg (whole 1)

cosine-at : (b : ℕ) → b < 2 → Within (unit-value (eqb b 1)) (quarter (suc (2 * b)) (whole 0 ⊗ step)) (tiny 80)
unfolding unit-value
cosine-at zero h = cosine_0
cosine-at (suc zero) h = cosine_2
cosine-at (suc (suc b)) h = absurd (omega arith)

cosine-wholly : (X : Fraction) (M : Multiple X (whole 1)) → Within (unit-value (eqb ((M.p + M.m) % 2) 1)) (exact_cosine (whole 32 ⊗ X)) wholly
cosine-wholly X M =
    let b = (M.p + M.m) % 2 in
    triangle (triangle (cosine-at b (omega arith)) (within-sym (cosine-quarters (2 * b) (whole 0) no_size))) (alike-cosine (quarters_on (2 * b) (whole 0)) (whole 32 ⊗ X) (whole 0) (wholes-alike X M))

-- ---- the answers
pub zero_is : (t : Bool) → T (finite (float_with_sign t (of_bits binary32 0))) × (value_of (float_with_sign t (of_bits binary32 0)) ≈ whole 0)
unfolding float_with_sign of_bits of_fields odd count_trailing_zeros
zero_is true = (tt, record { eq = refl })
zero_is false = (tt, record { eq = refl })

unit-is : (t : Bool) → T (finite (unit t)) × (value_of (unit t) ≈ unit-value t)
unfolding unit-value negate of_bits of_fields odd count_trailing_zeros
unit-is true = (tt, record { eq = refl })
unit-is false = (tt, record { eq = refl })

pub zero-wholly : (x y : Float) → Multiple (value_of x) (whole 1) → Good (zero_of y) (exact_sine (whole 32 ⊗ value_of x)) short
zero-wholly x y M = let z = zero_is (is_sign_negative y) in record { fin = z.0; near = within-⊑ wholly-short (within-≈ (≈-sym z.1) (≈-refl (exact_sine (whole 32 ⊗ value_of x))) (sine-wholly (value_of x) M)) }

pub unit-wholly : (x : Float) → T (finite x) → Multiple (value_of x) (whole 1) → Good (unit (is_odd x)) (exact_cosine (whole 32 ⊗ value_of x)) short
unit-wholly x h M =
    let z = unit-is (is_odd x) in
    record { fin = z.0; near = within-⊑ wholly-short (within-≈ (≈-sym z.1) (≈-refl (exact_cosine (whole 32 ⊗ value_of x))) (subst (λ t. Within (unit-value t) (exact_cosine (whole 32 ⊗ value_of x)) wholly) (sym (odd-parity x h M.p M.m M.is)) (cosine-wholly (value_of x) M))) }
