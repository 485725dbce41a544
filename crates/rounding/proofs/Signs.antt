-- Signs by the pattern.
use Rattle.std.proofs.Common.{◌≡◌, ℕ, zero, suc, ◌+◌, ◌-◌, ◌*◌, ◌%◌, ◌<◌, Bool, true, false, cond, not, T, eqb, leb, sym, refl, ap, ◌∙◌, subst, mod-eq_of_lt, arith}
use lib.Ieee.{Float, Format, binary32, binary64, nan, inf, fin, prec, low, hid, ones, top, odd, of_fields, of_bits, to_bits, fits, is_nan}
use lib.Ieee.Bits.{of_bits-to_bits}
use Rattle.std.specs.Float.{is_sign_negative, float_with_sign}
use Rattle.rounding.specs.Round.{exponent_field}
use Rattle.rounding.proofs.Fields.{sign, sign_same, pattern-is}
use Rattle.rounding.proofs.Patterns.{fits_back, pattern_lt}

-- ---- fields with another sign
odd-with : (d : ℕ) (s t : Bool) (q k l : ℕ) → float_with_sign t (odd d s q k l) ≡ odd d t q k l
unfolding odd float_with_sign
odd-with d s t zero k l = refl
odd-with d s t (suc q) k l = refl

fields-with : (f : Format) (s t : Bool) (j d : ℕ) → float_with_sign t (of_fields f s j d) ≡ of_fields f t j d
unfolding of_fields float_with_sign
fields-with f s t zero d = odd-with (prec f) s t d 0 (low f)
fields-with f s t (suc j) d = go (eqb (suc j) (ones f)) (eqb d 0)
  where
    go : (a b : Bool) → float_with_sign t (cond a (cond b (inf s) nan) (odd (prec f) s (hid f + d) j (low f))) ≡ cond a (cond b (inf t) nan) (odd (prec f) t (hid f + d) j (low f))
    go true true = refl
    go true false = refl
    go false b = odd-with (prec f) s t (hid f + d) j (low f)

odd_sign : (d : ℕ) (s : Bool) (q k l : ℕ) → is_sign_negative (odd d s q k l) ≡ s
unfolding odd is_sign_negative
odd_sign d s zero k l = refl
odd_sign d s (suc q) k l = refl

fields-sign : (f : Format) (s : Bool) (j d : ℕ) → T (not (is_nan (of_fields f s j d))) → is_sign_negative (of_fields f s j d) ≡ s
unfolding of_fields is_sign_negative is_nan
fields-sign f s zero d n = odd_sign (prec f) s d 0 (low f)
fields-sign f s (suc j) d n = go (eqb (suc j) (ones f)) (eqb d 0) n
  where
    go : (a b : Bool) → T (not (is_nan (cond a (cond b (inf s) nan) (odd (prec f) s (hid f + d) j (low f))))) → is_sign_negative (cond a (cond b (inf s) nan) (odd (prec f) s (hid f + d) j (low f))) ≡ s
    go true true n = refl
    go true false n = absurd n
    go false b n = odd_sign (prec f) s (hid f + d) j (low f)

-- ---- the sign of a float is its pattern's first bit
pub bits-sign : (f : Format) (b : ℕ) → T (not (is_nan (of_bits f b))) → is_sign_negative (of_bits f b) ≡ sign f b
bits-sign f b n =
    let x = pattern-is f b (sign f b) (exponent_field f b) (b % hid f) refl refl refl in
    ap is_sign_negative x ∙ fields-sign f (sign f b) (exponent_field f b) (b % hid f) (subst (λ z. T (not (is_nan z))) x n)

nan-sign : (f : Format) → is_sign_negative nan ≡ sign f (to_bits f nan)
unfolding is_sign_negative sign to_bits
nan-sign binary32 = refl
nan-sign binary64 = refl

pub sign-is : (f : Format) (x : Float) → T (fits f x) → is_sign_negative x ≡ sign f (to_bits f x)
unfolding is_nan
sign-is f nan h = nan-sign f
sign-is f (inf s) h = let e = of_bits-to_bits f (inf s) h in sym (ap is_sign_negative e) ∙ bits-sign f (to_bits f (inf s)) (subst (λ z. T (not (is_nan z))) (sym e) (some s))
  where
    some : (s : Bool) → T (not (is_nan (inf s)))
    some s = tt
sign-is f (fin s m e) h = let k = of_bits-to_bits f (fin s m e) h in sym (ap is_sign_negative k) ∙ bits-sign f (to_bits f (fin s m e)) (subst (λ z. T (not (is_nan z))) (sym k) (some s))
  where
    some : (s : Bool) → T (not (is_nan (fin s m e)))
    some s = tt

pub test-is : (f : Format) (x : Float) (b : ℕ) → T (fits f x) → b ≡ to_bits f x → leb (top f) b ≡ is_sign_negative x
unfolding sign
test-is f x b h e = ap (leb (top f)) e ∙ sym (sign-is f x h)

-- ---- the sign copied
pub copied : (f : Format) (a b c : ℕ) → a < 2 * top f → b < 2 * top f → c ≡ a % top f + (b - b % top f) → of_bits f c ≡ float_with_sign (sign f b) (of_bits f a)
copied f a b c A B e =
    let p = placed f a b c A B e in
    pattern-is f c (sign f b) (exponent_field f a) (a % hid f) p.0 p.1 p.2
    ∙ sym (ap (float_with_sign (sign f b)) (pattern-is f a (sign f a) (exponent_field f a) (a % hid f) refl refl refl) ∙ fields-with f (sign f a) (sign f b) (exponent_field f a) (a % hid f))
  where
    placed : (f : Format) (a b c : ℕ) → a < 2 * top f → b < 2 * top f → c ≡ a % top f + (b - b % top f) → (sign f c ≡ sign f b) × (exponent_field f c ≡ exponent_field f a) × (c % hid f ≡ a % hid f)
    placed binary32 a b c A B e = (sign_same binary32 b c (λ l. omega arith) (λ l. omega arith), omega arith, omega arith)
    placed binary64 a b c A B e = (sign_same binary64 b c (λ l. omega arith) (λ l. omega arith), omega arith, omega arith)

-- a copied sign makes a pattern
copied_lt : (f : Format) (a b : ℕ) → b < 2 * top f → a % top f + (b - b % top f) < 2 * top f
copied_lt binary32 a b h = omega arith
copied_lt binary64 a b h = omega arith

-- as the code copies it, where s and t are the sign's weight
pub copied_is : (f : Format) (x y r : Float) (a b s t : ℕ) → s ≡ top f → t ≡ top f → a ≡ to_bits f x → x ≡ of_bits f a → b ≡ to_bits f y → y ≡ of_bits f b → r ≡ of_bits f ((a % s + (b - b % t)) % (2 * top f)) → r ≡ float_with_sign (is_sign_negative y) x
copied_is f x y r a b s t S U A X B Y R =
    let m : a < 2 * top f = pattern_lt f x a A X in
    let n : b < 2 * top f = pattern_lt f y b B Y in
    let e : a % s + (b - b % t) ≡ a % top f + (b - b % top f) = cc in
    let c : (a % s + (b - b % t)) % (2 * top f) ≡ a % top f + (b - b % top f) = ap (λ z. z % (2 * top f)) e ∙ mod-eq_of_lt (copied_lt f a b n) in
    let signs : sign f b ≡ is_sign_negative y = ap (sign f) B ∙ sym (sign-is f y (fits_back f y b Y)) in
    R ∙ copied f a b ((a % s + (b - b % t)) % (2 * top f)) m n c ∙ ap (λ z. float_with_sign z (of_bits f a)) signs ∙ ap (float_with_sign (is_sign_negative y)) (sym X)
