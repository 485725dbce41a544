-- The last place of a pattern tells whether the value is whole, and whether it is odd.
use Rattle.std.proofs.Common.{◌≡◌, ℕ, zero, suc, ◌+◌, ◌-◌, ◌*◌, ◌/◌, ◌%◌, ◌^◌, ◌<◌, ◌≤◌, Bool, true, false, cond, not, T, eqb, ltb, leb, pos, negsuc, sym, refl, ap, ◌∙◌, subst, lt_of_lt_of_le, zero-lt-suc, div-lt_iff_lt-mul, pow-suc, div-one, arith, lit≤, eqb→eq, leb→le, eq-eqb, ne_eqb, le-leb}
use native.Mathlib.Nat.{pow-succ', div-div-eq-div-mul, mod-one, div-add-mod}
use borrow.Author.Tests.{lt-leb}
use lib.Dec.{nleb→lt}
use lib.Count.{under, count_trailing_zeros, trailing_le}
use lib.Ieee.{Float, binary32, nan, inf, fin, odd, of_fields, of_bits, to_bits, fits}
use lib.Ieee.Bits.{of_bits-to_bits}
use Rattle.rounding.specs.Round.{exponent_field}
use Rattle.rounding.specs.Bits.{whole_bits, odd_bits, is_whole, is_odd}
use Rattle.rounding.proofs.Fields.{sign, pattern-is}

-- ---- zeros at the end
half_in : (d q : ℕ) → q < 2 ^ suc d → q / 2 < 2 ^ d
half_in d q k = (div-lt_iff_lt-mul (zero-lt-suc 1)).1 (subst (λ x. q < x) (pow-suc 2 d) k)

half_pos : (q : ℕ) → 0 < q → q % 2 ≡ 0 → 0 < q / 2
half_pos q h e = omega arith

odd-left : (d q : ℕ) → 0 < q → q < 2 ^ d → q / 2 ^ count_trailing_zeros d q % 2 ≡ 1
unfolding count_trailing_zeros
odd-left zero q h k = absurd (omega arith)
odd-left (suc d) q h k = go (q % 2) refl (λ e. odd-left d (q / 2) (half_pos q h e) (half_in d q k))
  where
    is_one : (r : ℕ) → q % 2 ≡ suc r → q % 2 ≡ 1
    is_one r e = omega arith

    go : (r : ℕ) → q % 2 ≡ r → (q % 2 ≡ 0 → q / 2 / 2 ^ count_trailing_zeros d (q / 2) % 2 ≡ 1) → q / 2 ^ under r (count_trailing_zeros d (q / 2)) % 2 ≡ 1
    go zero e ih =
        let t = count_trailing_zeros d (q / 2) in
        ap (λ x. x % 2) (ap (λ x. q / x) (pow-succ' 2 t) ∙ sym (div-div-eq-div-mul q 2 (2 ^ t))) ∙ ih e
    go (suc r) e ih = ap (λ x. x % 2) (div-one q) ∙ is_one r e

-- one digit more to look at
pub one-wider : (d q : ℕ) → 0 < q → q < 2 ^ d → count_trailing_zeros (suc d) q ≡ count_trailing_zeros d q
unfolding count_trailing_zeros
one-wider zero q h k = absurd (omega arith)
one-wider (suc d) q h k = go (q % 2) (λ e. one-wider d (q / 2) (half_pos q h e) (half_in d q k)) refl
  where
    go : (r : ℕ) → (q % 2 ≡ 0 → count_trailing_zeros (suc d) (q / 2) ≡ count_trailing_zeros d (q / 2)) → q % 2 ≡ r → under r (count_trailing_zeros (suc d) (q / 2)) ≡ under r (count_trailing_zeros d (q / 2))
    go zero ih e = ap suc (ih e)
    go (suc r) ih e = refl

wider : (q : ℕ) → 0 < q → q < 2 ^ 24 → count_trailing_zeros 32 q ≡ count_trailing_zeros 24 q
wider q h k =
    let w : (d : ℕ) → 24 ≤ d → count_trailing_zeros (suc d) q ≡ count_trailing_zeros d q = λ d l. one-wider d q h (lt_of_lt_of_le k (lib.Pow.pow_mono l)) in
    w 31 (lit≤ tt) ∙ w 30 (lit≤ tt) ∙ w 29 (lit≤ tt) ∙ w 28 (lit≤ tt) ∙ w 27 (lit≤ tt) ∙ w 26 (lit≤ tt) ∙ w 25 (lit≤ tt) ∙ w 24 (lit≤ tt)

-- ---- an odd number times a power of two
-- a number with an even rest by an even divisor is even
even-rest : (m p r : ℕ) → m % 2 ≡ 1 → m ≡ r * 2 + p * 2 → ⊥
even-rest m p r o e = omega arith

whole-at : (s : Bool) (m : ℕ) → m % 2 ≡ 1 → (A B : ℕ) (c : Bool) → is_whole (fin s m (cond c (pos A) (negsuc B))) ≡ c
whole-at s m o A B true = eq-eqb (m * 2 ^ A % 1) 0 (mod-one (m * 2 ^ A))
whole-at s m o A B false = ne_eqb (m * 1 % 2 ^ suc B) 0 (λ e. clash e)
  where
    parted : (q p r : ℕ) → m * 1 ≡ p * 2 * q + r → r ≡ 0 → m ≡ 0 * 2 + q * p * 2
    parted q p r e z = omega arith

    clash : m * 1 % 2 ^ suc B ≡ 0 → ⊥
    clash e =
        let w = 2 ^ suc B in
        even-rest m (m * 1 / w * 2 ^ B) 0 o (parted (m * 1 / w) (2 ^ B) (m * 1 % w) (sym (div-add-mod (m * 1) w) ∙ ap (λ z. z * (m * 1 / w) + m * 1 % w) (pow-suc 2 B)) e)

odd-at : (s : Bool) (m : ℕ) → m % 2 ≡ 1 → (A B : ℕ) (c : Bool) → is_odd (fin s m (cond c (pos A) (negsuc B))) ≡ cond c (eqb A 0) false
odd-at s m o zero B true = eq-eqb (m * 1 % 2) 1 (ap (λ z. z % 2) (native.Mathlib.Nat.mul-one m) ∙ o)
odd-at s m o (suc A) B true = ne_eqb (m * 2 ^ suc A % 2) 1 (λ e. even (2 ^ A) (sym (ap (λ z. m * z % 2) (pow-suc 2 A)) ∙ e)) ∙ sym (ne_eqb (suc A) 0 (λ e. omega arith))
  where
    even : (p : ℕ) → m * (p * 2) % 2 ≡ 1 → ⊥
    even p e = omega arith
odd-at s m o A B false = ne_eqb (m * 1 % (2 * 2 ^ suc B)) (2 ^ suc B) (λ e. clash e)
  where
    parted : (q p w r : ℕ) → m * 1 ≡ 2 * w * q + r → r ≡ w → w ≡ p * 2 → m ≡ p * 2 + w * q * 2
    parted q p w r e z k = omega arith

    clash : m * 1 % (2 * 2 ^ suc B) ≡ 2 ^ suc B → ⊥
    clash e =
        let w = 2 ^ suc B in
        let q = m * 1 / (2 * w) in
        even-rest m (w * q) (2 ^ B) o (parted q (2 ^ B) w (m * 1 % (2 * w)) (sym (div-add-mod (m * 1) (2 * w))) e (pow-suc 2 B))

odd-whole : (d : ℕ) (s : Bool) (q k l : ℕ) → 0 < q → q < 2 ^ d → is_whole (odd d s q k l) ≡ leb l (k + count_trailing_zeros d q)
unfolding odd
odd-whole d s zero k l h g = absurd (omega arith)
odd-whole d s (suc q) k l h g =
    let t = count_trailing_zeros d (suc q) in
    whole-at s (suc q / 2 ^ t) (odd-left d (suc q) h g) (k + t - l) (l - suc (k + t)) (leb l (k + t))

-- equal together, the tests are one
alike : (a b c d : ℕ) → (a ≡ b → c ≡ d) → (c ≡ d → a ≡ b) → eqb a b ≡ eqb c d
alike a b c d f g = go (eqb c d) (eqb→eq c d) (λ n e. subst (λ z. T (not z)) (eq-eqb c d e) n)
  where
    go : (t : Bool) → (T t → c ≡ d) → (T (not t) → c ≡ d → ⊥) → eqb a b ≡ t
    go true h k = eq-eqb a b (g (h tt))
    go false h k = ne_eqb a b (λ e. k tt (f e))

least : (a l : ℕ) → cond (leb l a) (eqb (a - l) 0) false ≡ eqb a l
least a l = go (leb l a) (leb→le l a) (nleb→lt l a)
  where
    go : (c : Bool) → (T c → l ≤ a) → (T (not c) → a < l) → cond c (eqb (a - l) 0) false ≡ eqb a l
    go true f g = let k = f tt in alike (a - l) 0 a l (λ e. omega arith) (λ e. omega arith)
    go false f g = let k = g tt in sym (ne_eqb a l (λ e. omega arith))

odd-odd : (d : ℕ) (s : Bool) (q k l : ℕ) → 0 < q → q < 2 ^ d → is_odd (odd d s q k l) ≡ eqb (k + count_trailing_zeros d q) l
unfolding odd
odd-odd d s zero k l h g = absurd (omega arith)
odd-odd d s (suc q) k l h g =
    let t = count_trailing_zeros d (suc q) in
    odd-at s (suc q / 2 ^ t) (odd-left d (suc q) h g) (k + t - l) (l - suc (k + t)) (leb l (k + t)) ∙ least (k + t) l

-- ---- a pattern's fields
leb_suc : (a b c d : ℕ) → (a ≤ b → c ≤ d) → (c ≤ d → a ≤ b) → leb a b ≡ leb c d
leb_suc a b c d f g = go (leb c d) (leb→le c d) (nleb→lt c d)
  where
    go : (t : Bool) → (T t → c ≤ d) → (T (not t) → d < c) → leb a b ≡ t
    go true h k = le-leb a b (g (h tt))
    go false h k = lt-leb a b (native.Mathlib.Nat.lt_of_not-le (λ e. native.Mathlib.Nat.not-le_of_lt (k tt) (f e)))

-- the field j and the digits t
place : ℕ → ℕ → ℕ
place j t = j + count_trailing_zeros 32 (8388608 + t)

pub normal : (s : Bool) (j t : ℕ) → suc j < 255 → of_fields binary32 s (suc j) t ≡ odd 24 s (8388608 + t) j 149
unfolding of_fields
normal s j t h = ap (λ b. cond b (cond (eqb t 0) (inf s) nan) (odd 24 s (8388608 + t) j 149)) (ne_eqb (suc j) 255 (λ e. omega arith))

ends : (j t : ℕ) → t < 8388608 → place (suc j) t ≡ suc (j + count_trailing_zeros 24 (8388608 + t))
unfolding place
ends j t h = ap (λ z. suc j + z) (wider (8388608 + t) (omega arith) (omega arith)) ∙ turn j (count_trailing_zeros 24 (8388608 + t))
  where
    turn : (a b : ℕ) → suc a + b ≡ suc (a + b)
    turn a b = omega arith

low-place : (t : ℕ) → place 0 t ≤ 32
unfolding place
low-place t = let h = trailing_le 32 (8388608 + t) in omega arith

fields-whole : (s : Bool) (j t : ℕ) → j < 255 → t < 8388608 → 0 < j + t → leb 150 (place j t) ≡ is_whole (of_fields binary32 s j t)
unfolding of_fields
fields-whole s zero t h k p =
    let e = trailing_le 24 t in
    let l = low-place t in
    lt-leb 150 (place 0 t) (omega arith) ∙ sym (odd-whole 24 s t 0 149 (omega arith) (omega arith) ∙ lt-leb 149 (0 + count_trailing_zeros 24 t) (omega arith))
fields-whole s (suc j) t h k p =
    ap (leb 150) (ends j t k) ∙ leb_suc 150 (suc (j + count_trailing_zeros 24 (8388608 + t))) 149 (j + count_trailing_zeros 24 (8388608 + t)) (λ e. omega arith) (λ e. omega arith)
    ∙ sym (ap is_whole (normal s j t h) ∙ odd-whole 24 s (8388608 + t) j 149 (omega arith) (omega arith))

special-odd : (s : Bool) (t : ℕ) → is_odd (of_fields binary32 s 255 t) ≡ false
unfolding of_fields
special-odd s t = go (eqb t 0)
  where
    go : (c : Bool) → is_odd (cond c (inf s) nan) ≡ false
    go true = refl
    go false = refl

low-odd : (s : Bool) (t : ℕ) → t < 8388608 → is_odd (odd 24 s t 0 149) ≡ false
unfolding odd
low-odd s zero h = refl
low-odd s (suc t) h = let e = trailing_le 24 (suc t) in odd-odd 24 s (suc t) 0 149 (omega arith) (omega arith) ∙ ne_eqb (0 + count_trailing_zeros 24 (suc t)) 149 (λ z. omega arith)

fields-odd : (s : Bool) (j t : ℕ) → j < 256 → t < 8388608 → eqb (place j t) 150 ≡ is_odd (of_fields binary32 s j t)
unfolding of_fields
fields-odd s zero t h k = let l = low-place t in ne_eqb (place 0 t) 150 (λ e. omega arith) ∙ sym (low-odd s t k)
fields-odd s (suc j) t h k = go (ltb (suc j) 255) (lib.Dec.ltb→lt (suc j) 255) (lib.Dec.nltb→le (suc j) 255)
  where
    go : (c : Bool) → (T c → suc j < 255) → (T (not c) → 255 ≤ suc j) → eqb (place (suc j) t) 150 ≡ is_odd (of_fields binary32 s (suc j) t)
    go true f g =
        ap (λ z. eqb z 150) (ends j t k) ∙ alike (suc (j + count_trailing_zeros 24 (8388608 + t))) 150 (j + count_trailing_zeros 24 (8388608 + t)) 149 (λ e. omega arith) (λ e. omega arith)
        ∙ sym (ap is_odd (normal s j t (f tt)) ∙ odd-odd 24 s (8388608 + t) j 149 (omega arith) (omega arith))
    go false f g =
        let l = g tt in
        let e : 255 ≡ suc j = omega arith in
        ne_eqb (place (suc j) t) 150 (λ z. large z l) ∙ sym (special-odd s t) ∙ ap (λ z. is_odd (of_fields binary32 s z t)) e
      where
        large : place (suc j) t ≡ 150 → 255 ≤ suc j → ⊥
        large z l = let w = ends j t k in omega arith

-- ---- a float
module _ (x : Float) (h : T (fits binary32 x)) where
  x-is : of_bits binary32 (to_bits binary32 x) ≡ x
  x-is = of_bits-to_bits binary32 x h

  by-fields : x ≡ of_fields binary32 (sign binary32 (to_bits binary32 x)) (exponent_field binary32 (to_bits binary32 x)) (to_bits binary32 x % 8388608)
  by-fields = sym x-is ∙ pattern-is binary32 (to_bits binary32 x) (sign binary32 (to_bits binary32 x)) (exponent_field binary32 (to_bits binary32 x)) (to_bits binary32 x % 8388608) refl refl refl

  pub odd-means : odd_bits x ≡ is_odd x
  unfolding place
  odd-means =
      fields-odd (sign binary32 (to_bits binary32 x)) (exponent_field binary32 (to_bits binary32 x)) (to_bits binary32 x % 8388608) (omega arith) (omega arith)
      ∙ sym (ap is_odd by-fields)

  pub whole-means : 0 < to_bits binary32 x % 2 ^ 31 → to_bits binary32 x % 2 ^ 31 < 2139095040 → whole_bits x ≡ is_whole x
  unfolding place
  whole-means p q =
      fields-whole (sign binary32 (to_bits binary32 x)) (exponent_field binary32 (to_bits binary32 x)) (to_bits binary32 x % 8388608) (omega arith) (omega arith) (omega arith)
      ∙ sym (ap is_whole by-fields)
