-- The ways through the rounding of a pattern, as the code takes them.
use Rattle.std.proofs.Common.{◌≡◌, ℕ, suc, ◌+◌, ◌-◌, ◌*◌, ◌/◌, ◌%◌, ◌^◌, ◌<◌, ◌≤◌, Bool, true, false, cond, not, T, ltb, sym, ap, ◌∙◌, subst, lt_of_le_of_lt, lt_of_lt_of_le, mod-eq_of_lt, one-mul, div-mul-le_self, sub-le, arith, rules, lit<, lit≤, pow_mono, ltb→lt, nltb→le}
use lib.Ieee.{Format, binary32, binary64, prec, emax, low, hid, top}
use Rattle.rounding.specs.Round.{exponent_field, sign_bit, cut_at, round_bits}

-- a unit in a word
unit-small : (f : Format) (j : ℕ) → emax f ≤ j → 2 ^ (suc (low f) - j) ≤ hid f
unit-small f j h = pow_mono {i = suc (low f) - j} {j = prec f - 1} (places f j h)
  where
    places : (f : Format) (j : ℕ) → emax f ≤ j → suc (low f) - j ≤ prec f - 1
    places binary32 j h = omega arith
    places binary64 j h = omega arith

-- the shift of a word loses nothing of it
pub unit_is : (f : Format) (j : ℕ) → emax f ≤ j → (1 * 2 ^ (suc (low f) - j)) % 18446744073709551616 ≡ 2 ^ (suc (low f) - j)
unit_is f j h = ap (λ z. z % 18446744073709551616) (one-mul (2 ^ (suc (low f) - j))) ∙ mod-eq_of_lt (lt_of_le_of_lt (unit-small f j h) (word f))
  where
    word : (f : Format) → hid f < 18446744073709551616
    word binary32 = lit< tt
    word binary64 = lit< tt

-- with digits after the point
pub case_mid : (f : Format) (b : ℕ) → emax f - 1 ≤ exponent_field f b → emax f ≤ exponent_field f b → exponent_field f b < suc (low f) → cut_at b ((1 * 2 ^ (suc (low f) - exponent_field f b)) % 18446744073709551616) ≡ round_bits f b
unfolding round_bits
case_mid f b g h k = ap (cut_at b) (unit_is f (exponent_field f b) h) ∙ search rules

-- half a unit more, for any unit
half_more : (f : Format) (b u : ℕ) → b < 2 * top f → exponent_field f b < suc (low f) → u ≤ hid f → b + u / 2 < 2 * top f
half_more binary32 b u B k l = omega arith
half_more binary64 b u B k l = omega arith

-- a pattern fits a word
word : (f : Format) → 2 * top f ≤ 18446744073709551616
word binary32 = lit≤ tt
word binary64 = lit≤ tt

-- half a unit more is still a pattern
mid_lt : (f : Format) (b : ℕ) → b < 2 * top f → emax f ≤ exponent_field f b → exponent_field f b < suc (low f) → b + 2 ^ (suc (low f) - exponent_field f b) / 2 < 2 * top f
mid_lt f b B h k = half_more f b (2 ^ (suc (low f) - exponent_field f b)) B k (unit-small f (exponent_field f b) h)

-- the sum and the product fit a word
pub mid_sum : (f : Format) (b : ℕ) → b < 2 * top f → emax f ≤ exponent_field f b → exponent_field f b < suc (low f) → b + (1 * 2 ^ (suc (low f) - exponent_field f b)) % 18446744073709551616 / 2 < 18446744073709551616
mid_sum f b B h k = subst (λ u. b + u / 2 < 18446744073709551616) (sym (unit_is f (exponent_field f b) h)) (lt_of_lt_of_le (mid_lt f b B h k) (word f))

-- what is cut is no larger
cut_lt : (b u n : ℕ) → b + u / 2 < n → cut_at b u < n
cut_lt b u n h = lt_of_le_of_lt (div-mul-le_self (b + u / 2) u) h

-- the product
pub mid_product : (f : Format) (b : ℕ) → b < 2 * top f → emax f ≤ exponent_field f b → exponent_field f b < suc (low f) → cut_at b ((1 * 2 ^ (suc (low f) - exponent_field f b)) % 18446744073709551616) < 18446744073709551616
mid_product f b B h k = cut_lt b ((1 * 2 ^ (suc (low f) - exponent_field f b)) % 18446744073709551616) 18446744073709551616 (mid_sum f b B h k)

-- either way below n
chosen_lt : (t : Bool) (a b n : ℕ) → (T t → a < n) → (T (not t) → b < n) → cond t a b < n
chosen_lt true a b n h k = h tt
chosen_lt false a b n h k = k tt

-- so is 1
one_lt : (f : Format) (b : ℕ) → b < 2 * top f → sign_bit f b + emax f * hid f < 2 * top f
one_lt binary32 b h = omega arith
one_lt binary64 b h = omega arith

-- the rounded pattern
pub round_bits_lt : (f : Format) (b : ℕ) → b < 2 * top f → round_bits f b < 2 * top f
unfolding round_bits
round_bits_lt f b B =
    let e = exponent_field f b in
    let n = 2 * top f in
    chosen_lt (ltb e (emax f - 1)) (sign_bit f b) _ n (λ _. lt_of_le_of_lt (sub-le b (b % top f)) B) (λ _.
    chosen_lt (ltb e (emax f)) (sign_bit f b + emax f * hid f) _ n (λ _. one_lt f b B) (λ h.
    chosen_lt (ltb e (suc (low f))) (cut_at b (2 ^ (suc (low f) - e))) b n (λ k. cut_lt b (2 ^ (suc (low f) - e)) n (mid_lt f b B (nltb→le e (emax f) h) (ltb→lt e (suc (low f)) k))) (λ _. B)))
