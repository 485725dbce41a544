-- Narrowing on the patterns is narrowing to the nearest f32.
use Rattle.std.proofs.Common.{◌≡◌, ℕ, zero, suc, ◌+◌, ◌-◌, ◌*◌, ◌/◌, ◌%◌, ◌^◌, ◌<◌, ◌≤◌, Bool, true, false, cond, not, T, ltb, leb, sym, refl, ap, ◌∙◌, subst, le_trans, le_of_eq, lt_of_lt_of_le, mul-le-mul_right, zero-lt-suc, mul_assoc, div-lt_iff_lt-mul, le_antisymm, mul-lt-mul_of_pos_right, mul-pos, lt_of_not-le, le-div_iff_mul-le, not-le_of_lt, arith, lit<, le→leb, ltb→lt, lt→ltb, nltb→le, pow_pos, pow_mono, pow-add, shl_lt}
use Prim.Native.Nat.{compare, Ordering}
use lib.Count.{count_trailing_zeros}
use lib.Ieee.{Float, Format, binary32, binary64, nan, inf, fin, prec, emax, low, up, down, size, nearest, odd, units, round, of_fields, of_bits, to_bits, fits, is_nan, nan_bits}
use lib.Ieee.Exact.{HasValue}
use lib.Ieee.Digits.{size-lt, size-le}
use lib.Ieee.Fits.{round_is, round-fits, down_pos, nearest-le}
use lib.Ieee.Bits.{nan_bits_is, is_true, is_false, of_bits-to_bits, to_bits-of_bits}
use lib.Ieee.Nearest.{closest, closest_same, div_same, nearest-ge}
use lib.Ieee.Scale.{round_same}
use Rattle.std.specs.Float.{round_to_format}
use Rattle.rounding.specs.Round.{exponent_field}
use Rattle.rounding.specs.Narrowing.{narrow_bits}
use Rattle.rounding.proofs.Fields.{fields, sign, pattern-is}
use Rattle.rounding.proofs.Wholes.{one-wider, normal}

-- ---- rounding by units
valued : (f : Format) (x : Float) (s : Bool) (a c : ℕ) → 0 < c → HasValue x s a c → round_to_format f x ≡ round f s a c
unfolding round_to_format
valued f nan s a c C h = absurd h
valued f (inf t) s a c C h = absurd h
valued f (fin t m e) s a c C h = ap (λ z. round f z (m * up e) (down e)) h.0 ∙ round_same f s (m * up e) (down e) a c (down_pos e) C h.1

-- a / d units of the smallest value
round-units : (f : Format) (s : Bool) (a d k : ℕ) → 0 < d → size (a / d) - prec f ≡ k → round f s a (d * 2 ^ low f) ≡ units f s (closest a (d * 2 ^ k)) k
round-units f s a d k D e =
    let l = 2 ^ low f in
    let L : 0 < l = pow_pos (low f) in
    let K : size (a * l / (d * l)) - prec f ≡ k = ap (λ z. size z - prec f) (div_same (a * l) (d * l) a d (mul-pos D L) D (turn a l d)) ∙ e in
    round_is f s a (d * l)
    ∙ ap (λ z. units f s (closest (a * l) (d * l * 2 ^ z)) z) K
    ∙ ap (λ z. units f s z k) (closest_same (a * l) (d * l * 2 ^ k) a (d * 2 ^ k) (mul-pos (mul-pos D L) (pow_pos k)) (mul-pos D (pow_pos k)) (turns a l d (2 ^ k)))
  where
    turn : (a l d : ℕ) → a * l * d ≡ a * (d * l)
    turn a l d = omega arith

    turns : (a l d p : ℕ) → a * l * (d * p) ≡ a * (d * l * p)
    turns a l d p = omega arith

-- m of 53 digits, times 2 ^ k, by 2 ^ 29
abbrev unit : ℕ
unit = 536870912

size_is : (n j : ℕ) → 2 ^ j ≤ n → n < 2 ^ suc j → size n ≡ suc j
size_is n j lo hi = le_antisymm (size-le n (suc j) hi) (lt_of_not-le (λ (g : size n ≤ j). not-le_of_lt (lt_of_lt_of_le (size-lt n) (pow_mono g)) lo))

digits : (m k : ℕ) → 4503599627370496 ≤ m → m < 9007199254740992 → size (m * 2 ^ k / unit) - 24 ≡ k
digits m k lo hi = ap (λ z. z - 24) (size_is (m * 2 ^ k / unit) (23 + k) below above) ∙ back k
  where
    back : (k : ℕ) → suc (23 + k) - 24 ≡ k
    back k = omega arith

    low-side : (p : ℕ) → 4503599627370496 * p ≤ m * p → 8388608 * p * unit ≤ m * p
    low-side p h = omega arith

    high-side : (p : ℕ) → m * p < 9007199254740992 * p → m * p < 16777216 * p * unit
    high-side p h = omega arith

    next : (k : ℕ) → 24 + k ≡ suc (23 + k)
    next k = omega arith

    below : 2 ^ (23 + k) ≤ m * 2 ^ k / unit
    below = (le-div_iff_mul-le (zero-lt-suc 536870911)).1 (le_trans (le_of_eq (ap (λ z. z * unit) (pow-add 2 23 k))) (low-side (2 ^ k) (mul-le-mul_right (2 ^ k) lo)))

    above : m * 2 ^ k / unit < 2 ^ suc (23 + k)
    above = subst (λ z. m * 2 ^ k / unit < 2 ^ z) (next k) ((div-lt_iff_lt-mul (zero-lt-suc 536870911)).1 (lt_of_lt_of_le (high-side (2 ^ k) (mul-lt-mul_of_pos_right hi (pow_pos k))) (le_of_eq (ap (λ z. z * unit) (sym (pow-add 2 24 k))))))

-- 24 digits are kept
kept-units : (s : Bool) (m k : ℕ) → 4503599627370496 ≤ m → m < 9007199254740992 → round binary32 s (m * 2 ^ k) (unit * 2 ^ 149) ≡ units binary32 s (closest m unit) k
kept-units s m k lo hi =
    round-units binary32 s (m * 2 ^ k) unit k (zero-lt-suc 536870911) (digits m k lo hi)
    ∙ ap (λ z. units binary32 s z k) (closest_same (m * 2 ^ k) (unit * 2 ^ k) m unit (mul-pos (zero-lt-suc 536870911) (pow_pos k)) (zero-lt-suc 536870911) (turn m (2 ^ k)))
  where
    turn : (m p : ℕ) → m * p * unit ≡ m * (unit * p)
    turn m p = omega arith

-- ---- the bounds of what is kept
between : (m : ℕ) → 4503599627370496 ≤ m → m < 9007199254740992 → (8388608 ≤ closest m unit) × (closest m unit ≤ 16777216)
between m lo hi =
    let o = compare (m % unit * 2) unit in
    let a : 8388608 ≤ m / unit = omega arith in
    let b : suc (m / unit) ≤ 16777216 = omega arith in
    (le_trans a (nearest-ge (m / unit) o), le_trans (nearest-le (m / unit) o) b)

-- an even number of units more
shifted : (w c : ℕ) (o : Ordering) → nearest (c * 8388608 + w) o ≡ c * 8388608 + nearest w o
shifted w c Ordering.lt = refl
shifted w c Ordering.eq = omega arith
shifted w c Ordering.gt = omega arith

closest-shift : (c m : ℕ) → closest (c * 4503599627370496 + m) unit ≡ c * 8388608 + closest m unit
closest-shift c m =
    let a : (c * 4503599627370496 + m) / unit ≡ c * 8388608 + m / unit = omega arith in
    let b : (c * 4503599627370496 + m) % unit ≡ m % unit = omega arith in
    ap (λ z. nearest z (compare ((c * 4503599627370496 + m) % unit * 2) unit)) a ∙ ap (λ z. nearest (c * 8388608 + m / unit) (compare (z * 2) unit)) b ∙ shifted (m / unit) c (compare (m % unit * 2) unit)

-- ---- the units as a pattern
in_range_lem : (q k n : ℕ) → q < 2 ^ 24 → 24 + k ≤ n → ltb (q * 2 ^ k) (2 ^ n) ≡ true
in_range_lem q k n h l = is_true (ltb (q * 2 ^ k) (2 ^ n)) (lt→ltb (q * 2 ^ k) (2 ^ n) (lt_of_lt_of_le (shl_lt 24 k h) (pow_mono l)))

small_units : (s : Bool) (q k : ℕ) → 8388608 ≤ q → q < 16777216 → k ≤ 253 → units binary32 s q k ≡ of_fields binary32 s (suc k) (q - 8388608)
unfolding units odd
small_units s q k lo hi l =
    ap (λ t. cond t (odd 25 s q k 149) (inf s)) (in_range_lem q k 277 hi (omega arith))
    ∙ widths q (omega arith) hi
    ∙ ap (λ z. odd 24 s z k 149) (omega arith)
    ∙ sym (normal s k (q - 8388608) (omega arith))
  where
    widths : (q : ℕ) → 0 < q → q < 16777216 → odd 25 s q k 149 ≡ odd 24 s q k 149
    widths zero h g = refl
    widths (suc q) h g = ap (λ t. fin s (suc q / 2 ^ t) (lib.Ieee.minus (k + t) 149)) (one-wider 24 (suc q) h g)

top-units : (s : Bool) (k : ℕ) → k ≤ 253 → units binary32 s 16777216 k ≡ of_fields binary32 s (suc (suc k)) 0
unfolding units odd count_trailing_zeros of_fields
top-units s k l = go (ltb k 253) (ltb→lt k 253) (nltb→le k 253)
  where
    large : (k : ℕ) → 253 ≤ k → k ≤ 253 → units binary32 s 16777216 k ≡ of_fields binary32 s (suc (suc k)) 0
    large k a b = let e : k ≡ 253 = omega arith in subst (λ z. units binary32 s 16777216 z ≡ of_fields binary32 s (suc (suc z)) 0) (sym e) refl

    double : (p : ℕ) → 16777216 * p ≡ 8388608 * (p * 2)
    double p = omega arith

    less : (k : ℕ) → k < 253 → ltb (16777216 * 2 ^ k) (2 ^ 277) ≡ true
    less k h = ap (λ z. ltb z (2 ^ 277)) (double (2 ^ k) ∙ ap (λ z. 8388608 * z) (sym (native.Mathlib.Nat.pow-suc 2 k))) ∙ in_range_lem 8388608 (suc k) 277 (lit< tt) (omega arith)

    go : (t : Bool) → (T t → k < 253) → (T (not t) → 253 ≤ k) → units binary32 s 16777216 k ≡ of_fields binary32 s (suc (suc k)) 0
    go true f g =
        ap (λ t. cond t (odd 25 s 16777216 k 149) (inf s)) (less k (f tt))
        ∙ ap (λ z. fin s 1 (lib.Ieee.minus z 149)) (same k)
        ∙ sym (normal s (suc k) 0 (omega (arith, f tt)))
      where
        same : (k : ℕ) → k + 24 ≡ suc k + 23
        same k = omega arith
    go false f g = large k (g tt) l

-- the field and the digits of the sign and c
placed : (b k q c : ℕ) → k ≤ 253 → 8388608 ≤ q → q < 16777216 → c ≡ cond (leb 9223372036854775808 b) 2147483648 0 + (k * 8388608 + q) → (sign binary32 c ≡ sign binary64 b) × (exponent_field binary32 c ≡ suc k) × (c % 8388608 ≡ q - 8388608)
unfolding sign
placed b k q c l lo hi e = go (leb 9223372036854775808 b) e
  where
    go : (t : Bool) → c ≡ cond t 2147483648 0 + (k * 8388608 + q) → (leb 2147483648 c ≡ t) × (c % 2147483648 / 8388608 ≡ suc k) × (c % 8388608 ≡ q - 8388608)
    go true e = (is_true (leb 2147483648 c) (le→leb 2147483648 c (omega arith)), omega arith, omega arith)
    go false e = (is_false (leb 2147483648 c) (lib.Arith.lt→nleb 2147483648 c (omega arith)), omega arith, omega arith)

placed-top : (b k c : ℕ) → k ≤ 253 → c ≡ cond (leb 9223372036854775808 b) 2147483648 0 + (k * 8388608 + 16777216) → (sign binary32 c ≡ sign binary64 b) × (exponent_field binary32 c ≡ suc (suc k)) × (c % 8388608 ≡ 0)
unfolding sign
placed-top b k c l e = go (leb 9223372036854775808 b) e
  where
    go : (t : Bool) → c ≡ cond t 2147483648 0 + (k * 8388608 + 16777216) → (leb 2147483648 c ≡ t) × (c % 2147483648 / 8388608 ≡ suc (suc k)) × (c % 8388608 ≡ 0)
    go true e = (is_true (leb 2147483648 c) (le→leb 2147483648 c (omega arith)), omega arith, omega arith)
    go false e = (is_false (leb 2147483648 c) (lib.Arith.lt→nleb 2147483648 c (omega arith)), omega arith, omega arith)

units-pattern : (b k q c : ℕ) → k ≤ 253 → 8388608 ≤ q → q ≤ 16777216 → c ≡ cond (leb 9223372036854775808 b) 2147483648 0 + (k * 8388608 + q) → units binary32 (sign binary64 b) q k ≡ of_bits binary32 c
units-pattern b k q c l lo hi e = go (ltb q 16777216) (ltb→lt q 16777216) (nltb→le q 16777216)
  where
    go : (t : Bool) → (T t → q < 16777216) → (T (not t) → 16777216 ≤ q) → units binary32 (sign binary64 b) q k ≡ of_bits binary32 c
    go true f g =
        let p = placed b k q c l lo (f tt) e in
        small_units (sign binary64 b) q k lo (f tt) l ∙ sym (pattern-is binary32 c (sign binary64 b) (suc k) (q - 8388608) p.0 p.1 p.2)
    go false f g =
        let z : q ≡ 16777216 = le_antisymm hi (g tt) in
        let p = placed-top b k c l (e ∙ ap (λ n. cond (leb 9223372036854775808 b) 2147483648 0 + (k * 8388608 + n)) z) in
        ap (λ n. units binary32 (sign binary64 b) n k) z ∙ top-units (sign binary64 b) k l ∙ sym (pattern-is binary32 c (sign binary64 b) (suc (suc k)) 0 p.0 p.1 p.2)

-- ---- all
pub narrow-pattern : (b : ℕ) → 897 ≤ exponent_field binary64 b → exponent_field binary64 b ≤ 1150 → of_bits binary32 (narrow_bits b) ≡ round_to_format binary32 (of_bits binary64 b)
unfolding narrow_bits
narrow-pattern b lo hi = sym (valued binary32 (of_bits binary64 b) s (m * 2 ^ (j - 1)) (2 ^ 1074) (pow_pos 1074) v ∙ scaled ∙ kept-units s m k m-lo m-hi ∙ units-pattern b k (closest m unit) (narrow_bits b) k-hi (between m m-lo m-hi).0 (between m m-lo m-hi).1 c-is)
  where
    s : Bool
    s = sign binary64 b

    j : ℕ
    j = exponent_field binary64 b

    k : ℕ
    k = exponent_field binary64 b - 897

    m : ℕ
    m = 4503599627370496 + b % 4503599627370496

    m-lo : 4503599627370496 ≤ 4503599627370496 + b % 4503599627370496
    m-lo = omega arith

    m-hi : 4503599627370496 + b % 4503599627370496 < 9007199254740992
    m-hi = omega arith

    k-hi : exponent_field binary64 b - 897 ≤ 253
    k-hi = omega arith

    v : HasValue (of_bits binary64 b) (sign binary64 b) ((4503599627370496 + b % 4503599627370496) * 2 ^ (exponent_field binary64 b - 1)) (2 ^ 1074)
    v = subst (λ z. HasValue z (sign binary64 b) ((4503599627370496 + b % 4503599627370496) * 2 ^ (exponent_field binary64 b - 1)) (2 ^ 1074)) (sym (pattern-is binary64 b (sign binary64 b) (exponent_field binary64 b) (b % 4503599627370496) refl refl refl)) (fields binary64 (sign binary64 b) (exponent_field binary64 b) (b % 4503599627370496) (omega arith) (omega arith))

    sums : (j : ℕ) → 897 ≤ j → j - 1 + 178 ≡ j - 897 + 1074
    sums j h = omega arith

    powers : 2 ^ (exponent_field binary64 b - 1) * (unit * 2 ^ 149) ≡ 2 ^ (exponent_field binary64 b - 897) * 2 ^ 1074
    powers = sym (pow-add 2 (exponent_field binary64 b - 1) 178) ∙ ap (λ z. 2 ^ z) (sums (exponent_field binary64 b) lo) ∙ pow-add 2 (exponent_field binary64 b - 897) 1074

    scaled : round binary32 s (m * 2 ^ (j - 1)) (2 ^ 1074) ≡ round binary32 s (m * 2 ^ k) (unit * 2 ^ 149)
    scaled = round_same binary32 s (m * 2 ^ (j - 1)) (2 ^ 1074) (m * 2 ^ k) (unit * 2 ^ 149) (pow_pos 1074) (pow_pos 178) (mul_assoc m (2 ^ (j - 1)) (unit * 2 ^ 149) ∙ ap (λ z. m * z) powers ∙ sym (mul_assoc m (2 ^ k) (2 ^ 1074)))

    rest-is : b % 9223372036854775808 - 4035225266123964416 ≡ (exponent_field binary64 b - 897) * 4503599627370496 + (4503599627370496 + b % 4503599627370496)
    rest-is = omega arith

    c-is : narrow_bits b ≡ cond (leb 9223372036854775808 b) 2147483648 0 + (k * 8388608 + closest m unit)
    c-is = ap (λ z. cond (leb 9223372036854775808 b) 2147483648 0 + closest z unit) rest-is ∙ ap (λ z. cond (leb 9223372036854775808 b) 2147483648 0 + z) (closest-shift k m)

-- ---- the code's steps
pub with-sign : (b r : ℕ) → 9223372036854775808 ≤ b → r ≡ closest (b % 9223372036854775808 - 4035225266123964416) unit → 2147483648 + r ≡ narrow_bits b
unfolding narrow_bits
with-sign b r h e = ap (λ z. 2147483648 + z) e ∙ sym (ap (λ t. cond t 2147483648 0 + closest (b % 9223372036854775808 - 4035225266123964416) unit) (is_true (leb 9223372036854775808 b) (le→leb 9223372036854775808 b h)))

pub without_sign : (b r : ℕ) → b < 9223372036854775808 → r ≡ closest (b % 9223372036854775808 - 4035225266123964416) unit → r ≡ narrow_bits b
unfolding narrow_bits
without_sign b r h e =
    e ∙ sym (native.Mathlib.Nat.zero-add (closest (b % 9223372036854775808 - 4035225266123964416) unit))
    ∙ sym (ap (λ t. cond t 2147483648 0 + closest (b % 9223372036854775808 - 4035225266123964416) unit) (is_false (leb 9223372036854775808 b) (lib.Arith.lt→nleb 9223372036854775808 b h)))

pub narrow-joined : (x r : Float) (b c : ℕ) → T (fits binary64 x) → b ≡ to_bits binary64 x → 897 ≤ exponent_field binary64 b → exponent_field binary64 b ≤ 1150 → c ≡ narrow_bits b → r ≡ of_bits binary32 c → r ≡ round_to_format binary32 x
narrow-joined x r b c h B lo hi C R = R ∙ ap (of_bits binary32) C ∙ narrow-pattern b lo hi ∙ ap (λ z. round_to_format binary32 (of_bits binary64 z)) B ∙ ap (round_to_format binary32) (of_bits-to_bits binary64 x h)

-- ---- what is rounded is no NaN, unless it was one
odd_number : (d : ℕ) (s : Bool) (q k l : ℕ) → T (not (is_nan (odd d s q k l)))
unfolding odd is_nan
odd_number d s zero k l = tt
odd_number d s (suc q) k l = tt

round_number : (f : Format) (s : Bool) (n d : ℕ) → T (not (is_nan (round f s n d)))
unfolding round units is_nan
round_number f s n d = go (ltb (q * 2 ^ k) (2 ^ (low f + suc (emax f))))
  where
    k : ℕ
    k = size (n * 2 ^ low f / d) - prec f

    q : ℕ
    q = closest (n * 2 ^ low f) (d * 2 ^ k)

    go : (t : Bool) → T (not (is_nan (cond t (odd (suc (prec f)) s q k (low f)) (inf s))))
    go true = odd_number (suc (prec f)) s q k (low f)
    go false = tt

nearest-number : (f : Format) (x : Float) → T (not (is_nan x)) → T (not (is_nan (round_to_format f x)))
unfolding round_to_format is_nan
nearest-number f nan h = h
nearest-number f (inf s) h = tt
nearest-number f (fin s m e) h = round_number f s (m * up e) (down e)

-- what is rounded to a format is one of it
pub narrowed_fits : (f : Format) (x : Float) → T (fits f (round_to_format f x))
unfolding round_to_format fits
narrowed_fits f nan = tt
narrowed_fits f (inf s) = tt
narrowed_fits f (fin s m e) = round-fits f s (m * up e) (down e)

-- ---- the words
-- that of a NaN
pub nan-word : (x : Float) → is_nan x ≡ true → ◌≡◌ {A = ℕ} 2143289344 (to_bits binary32 (round_to_format binary32 x))
unfolding round_to_format to_bits is_nan
nan-word nan h = refl
nan-word (inf s) h = cc
nan-word (fin s m e) h = cc

-- that of the nearest f32
pub narrow-word-joined : (x : Float) (c : ℕ) → T (fits binary64 x) → T (not (is_nan x)) → 897 ≤ exponent_field binary64 (to_bits binary64 x) → exponent_field binary64 (to_bits binary64 x) ≤ 1150 → c < 4294967296 → c ≡ narrow_bits (to_bits binary64 x) → c ≡ to_bits binary32 (round_to_format binary32 x)
narrow-word-joined x c h n lo hi l C =
    let e : of_bits binary32 c ≡ round_to_format binary32 x = narrow-joined x (of_bits binary32 c) (to_bits binary64 x) c h refl lo hi C refl in
    sym (to_bits-of_bits binary32 c l (subst (λ z. T (not (is_nan z))) (sym e) (nearest-number binary32 x n))) ∙ ap (to_bits binary32) e

-- the f32 of the word of what is narrowed
pub narrowed : (x : Float) (w : ℕ) → w ≡ to_bits binary32 (round_to_format binary32 x) → of_bits binary32 w ≡ round_to_format binary32 x
narrowed x w e = ap (of_bits binary32) e ∙ of_bits-to_bits binary32 (round_to_format binary32 x) (narrowed_fits binary32 x)

-- is no NaN's, unless x is one
pub number_word : (x : Float) (w : ℕ) → T (not (is_nan x)) → w ≡ to_bits binary32 (round_to_format binary32 x) → T (not (nan_bits binary32 w))
number_word x w n e = subst (λ b. T (not b)) (sym (nan_bits_is binary32 w ∙ ap is_nan (narrowed x w e))) (nearest-number binary32 x n)
