-- A pattern by its fields: what it is worth, and how its parts move.
use Rattle.std.proofs.Common.{◌≡◌, ℕ, zero, suc, ◌+◌, ◌-◌, ◌*◌, ◌/◌, ◌%◌, ◌^◌, ◌<◌, ◌≤◌, Bool, true, false, cond, not, T, eqb, leb, ap, ◌∙◌, subst, not-suc-le-zero, lt_irrefl, arith, le→leb, eqb→eq, leb→le}
use lib.Dec.{nleb→lt}
use lib.Ieee.{Float, Format, binary32, binary64, nan, inf, fin, prec, emax, low, hid, ones, top, of_bits, of_fields, odd}
use lib.Ieee.Exact.{HasValue, odd_sign}
use Rattle.rounding.specs.Round.{exponent_field, sign_bit}

-- with a leading digit
pub fields : (f : Format) (s : Bool) (j t : ℕ) → 0 < j → j < ones f → HasValue (of_fields f s j t) s ((hid f + t) * 2 ^ (j - 1)) (2 ^ low f)
unfolding of_fields
fields f s zero t p h = absurd (not-suc-le-zero p)
fields f s (suc j) t p h = subst (λ k. HasValue (of_fields f s (suc j) t) s ((hid f + t) * 2 ^ k) (2 ^ low f)) (less j) (go (eqb (suc j) (ones f)) (eqb→eq (suc j) (ones f)))
  where
    less : (j : ℕ) → j ≡ suc j - 1
    less j = omega arith

    clash : suc j ≡ ones f → ⊥
    clash e = lt_irrefl (ones f) (subst (λ z. z < ones f) e h)

    go : (b : Bool) → (T b → suc j ≡ ones f) → HasValue (cond b (cond (eqb t 0) (inf s) nan) (odd (prec f) s (hid f + t) j (low f))) s ((hid f + t) * 2 ^ j) (2 ^ low f)
    go true g = absurd (clash (g tt))
    go false g = odd_sign (prec f) s (hid f + t) j (low f)

-- without
pub fields-zero : (f : Format) (s : Bool) (t : ℕ) → HasValue (of_fields f s 0 t) s (t * 2 ^ 0) (2 ^ low f)
unfolding of_fields
fields-zero f s t = odd_sign (prec f) s t 0 (low f)

unfoldable pub sign : Format → ℕ → Bool
sign f b = leb (top f) b

pub pattern-is : (f : Format) (b : ℕ) (s : Bool) (j t : ℕ) → sign f b ≡ s → exponent_field f b ≡ j → b % hid f ≡ t → of_bits f b ≡ of_fields f s j t
unfolding of_bits sign
pattern-is f b s j t S J M = ap (λ z. of_fields f z (exponent_field f b) (b % hid f)) S ∙ ap (λ z. of_fields f s z (b % hid f)) J ∙ ap (λ z. of_fields f s j z) M

pub sign_same : (f : Format) (b c : ℕ) → (top f ≤ b → top f ≤ c) → (b < top f → c < top f) → sign f c ≡ sign f b
unfolding sign
sign_same f b c g h = go (leb (top f) b) (leb→le (top f) b) (nleb→lt (top f) b)
  where
    go : (t : Bool) → (T t → top f ≤ b) → (T (not t) → b < top f) → leb (top f) c ≡ t
    go true k l = lib.Ieee.Bits.is_true (leb (top f) c) (le→leb (top f) c (g (k tt)))
    go false k l = lib.Ieee.Bits.is_false (leb (top f) c) (lib.Arith.lt→nleb (top f) c (h (l tt)))

pub record Placed (f : Format) (b c j t : ℕ) : Type 0 where
  pub same : sign f c ≡ sign f b
  pub field : exponent_field f c ≡ j
  pub digits : c % hid f ≡ t

-- ---- in the numbers of each format
pub digits_lt : (f : Format) (b : ℕ) → b % hid f < hid f
digits_lt binary32 b = omega arith
digits_lt binary64 b = omega arith

pub lead-lt : (f : Format) (t : ℕ) → t < hid f → hid f + t < 2 ^ prec f
lead-lt binary32 t h = omega arith
lead-lt binary64 t h = omega arith

pub lead-ge : (f : Format) (t : ℕ) → hid f ≤ hid f + t
lead-ge binary32 t = omega arith
lead-ge binary64 t = omega arith

pub twice_hid : (f : Format) (m : ℕ) → hid f ≤ m → 2 ^ prec f ≤ m * 2
twice_hid binary32 m h = omega arith
twice_hid binary64 m h = omega arith

pub field_top : (f : Format) (b : ℕ) → ones f ≤ exponent_field f b → exponent_field f b ≡ ones f
field_top binary32 b h = omega arith
field_top binary64 b h = omega arith

pub zero-placed : (f : Format) (b : ℕ) → b < 2 * top f → Placed f b (sign_bit f b) 0 0
zero-placed binary32 b B = record { same = sign_same binary32 b (sign_bit binary32 b) (λ l. omega arith) (λ l. omega arith); field = omega arith; digits = omega arith }
zero-placed binary64 b B = record { same = sign_same binary64 b (sign_bit binary64 b) (λ l. omega arith) (λ l. omega arith); field = omega arith; digits = omega arith }

pub one_placed : (f : Format) (b : ℕ) → b < 2 * top f → Placed f b (sign_bit f b + emax f * hid f) (emax f) 0
one_placed binary32 b B = record { same = sign_same binary32 b (sign_bit binary32 b + 1065353216) (λ l. omega arith) (λ l. omega arith); field = omega arith; digits = omega arith }
one_placed binary64 b B = record { same = sign_same binary64 b (sign_bit binary64 b + 4607182418800017408) (λ l. omega arith) (λ l. omega arith); field = omega arith; digits = omega arith }

pub split : (f : Format) (b : ℕ) → hid f ≤ b → b ≡ (b / hid f - 1) * hid f + (hid f + b % hid f)
split binary32 b h = omega arith
split binary64 b h = omega arith

pub reaches : (f : Format) (b : ℕ) → emax f ≤ exponent_field f b → hid f ≤ b
reaches binary32 b h = omega arith
reaches binary64 b h = omega arith

-- the field stays below the next power of two, and is one more at it
pub stays : (f : Format) (b r : ℕ) → b < 2 * top f → emax f ≤ exponent_field f b → hid f ≤ r → r < 2 ^ prec f → (c : ℕ) → c ≡ (b / hid f - 1) * hid f + r → Placed f b c (exponent_field f b) (r - hid f)
stays binary32 b r B J L R c e = record { same = sign_same binary32 b c (λ l. omega arith) (λ l. omega arith); field = omega arith; digits = omega arith }
stays binary64 b r B J L R c e = record { same = sign_same binary64 b c (λ l. omega arith) (λ l. omega arith); field = omega arith; digits = omega arith }

pub carries : (f : Format) (b : ℕ) → b < 2 * top f → emax f ≤ exponent_field f b → exponent_field f b < suc (low f) → (c : ℕ) → c ≡ (b / hid f - 1) * hid f + 2 ^ prec f → Placed f b c (exponent_field f b + 1) 0
carries binary32 b B J K c e = record { same = sign_same binary32 b c (λ l. omega arith) (λ l. omega arith); field = omega arith; digits = omega arith }
carries binary64 b B J K c e = record { same = sign_same binary64 b c (λ l. omega arith) (λ l. omega arith); field = omega arith; digits = omega arith }
