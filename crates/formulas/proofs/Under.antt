-- The float of a 32-bit word: its value by the fields, how large it is, its word without the sign.
use Rattle.std.proofs.Common.{◌≡◌, ℕ, zero, suc, ◌+◌, ◌-◌, ◌*◌, ◌%◌, ◌^◌, ◌<◌, ◌≤◌, Bool, true, false, not, T, ◌≢◌, ◌⊎◌, sym, refl, ap, subst, inl, inr, le_trans, le_of_eq, mul-le-mul_right, mul-le-mul_left, pow-suc, mul-one, arith, lit<, pow_pos, pow_mono}
use native.Mathlib.Decide.{dec_le}
use lib.Ieee.{Float, nan, inf, fin, binary32, of_bits, of_fields, is_nan}
use lib.Ieee.Bits.{to_bits-of_bits}
use lib.Ieee.Exact.{HasValue}
use lib.Ieee.Scale.{finite}
use Rattle.rounding.proofs.Fields.{fields, fields-zero, sign, pattern-is}
use Rattle.exact.specs.Fraction.{Fraction, ◌≈◌, ◌⊑◌, neg, tiny, Size, leq}
use Rattle.exact.specs.Value.{value_of, signed, Held}
use Rattle.exact.proofs.Order.{by-test, ≈-sym, ≈-trans, neg_cong, size-≈, size-⊑}
use Rattle.exact.proofs.Rounding.{signed-value, flat}
use Rattle.reducers.specs.Exact.{field}
use Rattle.formulas.specs.Words.{size_bits}
use borrow.Author.Tests.{lt-leb}

-- how many of the smallest values: field j, digits t
unfoldable pub units_in : ℕ → ℕ → ℕ
units_in zero t = t
units_in (suc j) t = (8388608 + t) * 2 ^ j

-- units as a fraction
abbrev pub in_units : ℕ → Fraction
in_units n = record { plus = n; minus = 0; den = 2 ^ 149; ok = pow_pos 149 }

value-fields : (s : Bool) (j t : ℕ) → j < 255 → T (finite (of_fields binary32 s j t)) × (value_of (of_fields binary32 s j t) ≈ signed s (units_in j t) (2 ^ 149) (pow_pos 149))
unfolding units_in
value-fields s zero t h = signed-value (of_fields binary32 s 0 t) s t (2 ^ 149) (pow_pos 149) (subst (λ z. HasValue (of_fields binary32 s 0 t) s z (2 ^ 149)) (mul-one t) (fields-zero binary32 s t))
value-fields s (suc j) t h = signed-value (of_fields binary32 s (suc j) t) s ((8388608 + t) * 2 ^ j) (2 ^ 149) (pow_pos 149) (subst (λ k. HasValue (of_fields binary32 s (suc j) t) s ((8388608 + t) * 2 ^ k) (2 ^ 149)) (less j) (fields binary32 s (suc j) t (omega arith) h))
  where
    less : (j : ℕ) → suc j - 1 ≡ j
    less j = omega arith

word-is : (w : ℕ) → of_bits binary32 w ≡ of_fields binary32 (sign binary32 w) (field w) (w % 8388608)
word-is w = pattern-is binary32 w (sign binary32 w) (field w) (w % 8388608) refl refl refl

-- the value by the fields
pub value-word : (w : ℕ) → field w < 255 → T (finite (of_bits binary32 w)) × (value_of (of_bits binary32 w) ≈ signed (sign binary32 w) (units_in (field w) (w % 8388608)) (2 ^ 149) (pow_pos 149))
value-word w h = subst (λ x. T (finite x) × (value_of x ≈ signed (sign binary32 w) (units_in (field w) (w % 8388608)) (2 ^ 149) (pow_pos 149))) (sym (word-is w)) (value-fields (sign binary32 w) (field w) (w % 8388608) h)

-- ---- larger words are larger values
next_field : (j t : ℕ) → t < 8388608 → units_in j t ≤ 8388608 * 2 ^ j
unfolding units_in
next_field zero t h = omega arith
next_field (suc j) t h = le_trans (mul-le-mul_right (2 ^ j) (more t h)) (le_of_eq (double (2 ^ j) (2 ^ suc j) (pow-suc 2 j)))
  where
    more : (t : ℕ) → t < 8388608 → 8388608 + t ≤ 16777216
    more t h = omega arith

    double : (a b : ℕ) → b ≡ a * 2 → 16777216 * a ≡ 8388608 * b
    double a b e = omega arith

same-field : (j t r : ℕ) → t ≤ r → units_in j t ≤ units_in j r
unfolding units_in
same-field zero t r h = h
same-field (suc j) t r h = mul-le-mul_right (2 ^ j) (omega arith)

lower-field : (j i r : ℕ) → j < i → 8388608 * 2 ^ j ≤ units_in i r
unfolding units_in
lower-field j zero r k = absurd (omega arith)
lower-field j (suc i) r k = le_trans (mul-le-mul_left 8388608 (pow_mono (omega arith))) (mul-le-mul_right (2 ^ i) (omega arith))

units_mono : (j t i r : ℕ) → t < 8388608 → r < 8388608 → j * 8388608 + t ≤ i * 8388608 + r → units_in j t ≤ units_in i r
units_mono j t i r T R h = elim (dec_le i j) [ yes k ↦ level k | no k ↦ le_trans (next_field j t T) (lower-field j i r (omega arith)) ]
  where
    level : i ≤ j → units_in j t ≤ units_in i r
    level k = let e : j ≡ i = omega arith in subst (λ z. units_in j t ≤ units_in z r) e (same-field j t r (omega arith))

-- a word up to another, given by its fields, is at most that in size
pub word-under : (w i r : ℕ) → field w < 255 → r < 8388608 → w % 2147483648 ≤ i * 8388608 + r → Size (value_of (of_bits binary32 w)) (in_units (units_in i r))
word-under w i r h R k =
    size-≈ (≈-sym (value-word w h).1) (flat (sign binary32 w) (units_in (field w) (w % 8388608)) (2 ^ 149) (units_in i r) (pow_pos 149) (mul-le-mul_right (2 ^ 149) (units_mono (field w) (w % 8388608) i r (omega arith) R (omega arith))))

-- ---- the word without its sign
not_nan : (x : Float) → T (finite x) → T (not (is_nan x))
unfolding is_nan
not_nan nan h = absurd h
not_nan (inf s) h = absurd h
not_nan (fin s m e) h = tt

pub size-bits : (w : ℕ) → w < 2 ^ 32 → field w < 255 → size_bits (of_bits binary32 w) ≡ w % 2147483648
size-bits w h f = ap (λ z. z % 2147483648) (to_bits-of_bits binary32 w h (not_nan (of_bits binary32 w) (value-word w f).0))

-- ---- the float of the word without its sign has the same value, or the opposite one
pub field-same : (w : ℕ) → field (w % 2147483648) ≡ field w
field-same w = omega arith

plain-sign : (w : ℕ) → sign binary32 (w % 2147483648) ≡ false
unfolding sign
plain-sign w = lt-leb 2147483648 (w % 2147483648) (omega arith)

pub value-plain : (w : ℕ) → field w < 255 → value_of (of_bits binary32 (w % 2147483648)) ≈ in_units (units_in (field w) (w % 8388608))
value-plain w h =
    let v = w % 2147483648 in
    let e : v % 8388608 ≡ w % 8388608 = omega arith in
    subst (λ t. value_of (of_bits binary32 v) ≈ in_units (units_in (field w) t)) e
    (subst (λ j. value_of (of_bits binary32 v) ≈ in_units (units_in j (v % 8388608))) (field-same w)
    (subst (λ s. value_of (of_bits binary32 v) ≈ signed s (units_in (field v) (v % 8388608)) (2 ^ 149) (pow_pos 149)) (plain-sign w)
    (value-word v (subst (λ j. j < 255) (sym (field-same w)) h)).1))

pub mirrored : (w : ℕ) → field w < 255 → (value_of (of_bits binary32 w) ≈ value_of (of_bits binary32 (w % 2147483648))) ⊎ (value_of (of_bits binary32 w) ≈ neg (value_of (of_bits binary32 (w % 2147483648))))
mirrored w h = go (sign binary32 w) (value-word w h).1
  where
    go : (s : Bool) → value_of (of_bits binary32 w) ≈ signed s (units_in (field w) (w % 8388608)) (2 ^ 149) (pow_pos 149) → (value_of (of_bits binary32 w) ≈ value_of (of_bits binary32 (w % 2147483648))) ⊎ (value_of (of_bits binary32 w) ≈ neg (value_of (of_bits binary32 (w % 2147483648))))
    go false e = inl (≈-trans e (≈-sym (value-plain w h)))
    go true e = inr (≈-trans e (≈-sym (neg_cong (value-plain w h))))

-- ---- both together
pub held_word : (w i r : ℕ) (b : Fraction) → field w < 255 → r < 8388608 → w % 2147483648 ≤ i * 8388608 + r → in_units (units_in i r) ⊑ b → Held (of_bits binary32 w) b
held_word w i r b F R k l = record { fin = (value-word w F).0; size = size-⊑ l (word-under w i r F R k) }

zero-units : in_units (units_in 0 0) ⊑ tiny 60
unfolding leq units_in
zero-units = by-test tt

pub zero_word : (w : ℕ) → field w < 255 → w % 2147483648 ≤ 0 → Held (of_bits binary32 w) (tiny 60)
zero_word w F k = held_word w 0 0 (tiny 60) F (lit< tt) (omega arith) zero-units

pub finite-field : (w : ℕ) → field w ≢ 255 → field w < 255
finite-field w n = omega arith
