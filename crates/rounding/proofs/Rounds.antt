-- Rounding on the pattern is rounding to the nearest whole number, halves away from zero, in each format.
use Rattle.std.proofs.Common.{◌≡◌, ℕ, zero, suc, ◌+◌, ◌-◌, ◌*◌, ◌/◌, ◌%◌, ◌^◌, ◌<◌, ◌≤◌, Bool, true, false, cond, not, T, eqb, ltb, sym, refl, ap, ◌∙◌, subst, le_trans, le_of_eq, lt_of_lt_of_le, mul-le-mul_right, zero-lt-suc, mul_assoc, mul_comm, le_antisymm, mod-eq_of_lt, pow-suc, mul-div_cancel, arith, lit<, lit≤, ltb→lt, nltb→le, pow_pos, pow_mono, pow-add, shl_lt}
use native.Mathlib.Nat.{eq_of_mul-eq-mul_right}
use lib.Ieee.{Float, Format, binary32, binary64, nan, inf, fin, prec, emax, low, hid, ones, top, up, down, of_bits, of_fields, odd, round, fits}
use lib.Ieee.Exact.{HasValue}
use lib.Ieee.Back.{whole_unique}
use lib.Ieee.Bits.{of_bits-fits}
use lib.Ieee.Fits.{round-fits, down_pos}
use Rattle.std.specs.Float.{float_round, round_with, ratio_round_half_up}
use Rattle.rounding.specs.Round.{exponent_field, sign_bit, cut_at, round_bits}
use Rattle.exact.proofs.Away.{Parts, fits-parts, away-exact}
use Rattle.rounding.proofs.Fields.{fields, fields-zero, sign, pattern-is, Placed, digits_lt, lead-lt, lead-ge, twice_hid, field_top, zero-placed, one_placed, split, reaches, stays, carries}
use Rattle.rounding.proofs.Patterns.{pattern_lt}
use Rattle.rounding.proofs.Cases.{round_bits_lt}
use Rattle.rounding.proofs.Half.{half-same, half-none, half-one, half-all, half-by, bounds, moved-is}

-- ---- values
pub value-whole : (x : Float) (s : Bool) (a c q : ℕ) → 0 < c → a ≡ q * c → HasValue x s a c → HasValue x s q 1
value-whole nan s a c q C e h = h
value-whole (inf t) s a c q C e h = h
value-whole (fin t m d) s a c q C e h = (h.0, eq_of_mul-eq-mul_right c C (m * up d * 1) (q * down d) (turn (m * up d) (down d) h.1))
  where
    turn : (x y : ℕ) → x * c ≡ a * y → x * 1 * c ≡ q * y * c
    turn x y h = omega (arith, ap (λ z. z * y) e)

away-value : (f : Format) (x : Float) (s : Bool) (a c : ℕ) → 0 < c → HasValue x s a c → T (fits f x) → HasValue (float_round f x) s (ratio_round_half_up a c) 1
unfolding round_with
away-value f nan s a c C h k = absurd h
away-value f (inf t) s a c C h k = absurd h
away-value f (fin t m e) s a c C h k = go t h.0 (fits-parts f t m e k)
  where
    E : ratio_round_half_up (m * up e) (down e) ≡ ratio_round_half_up a c
    E = half-same (m * up e) (down e) a c (down_pos e) C h.1

    at : (t : Bool) → Parts f m e → HasValue (round f t (ratio_round_half_up (m * up e) (down e)) 1) t (ratio_round_half_up a c) 1
    at t P = subst (λ n. HasValue (round f t (ratio_round_half_up (m * up e) (down e)) 1) t n 1) E (away-exact f t m e P)

    go : (t : Bool) → t ≡ s → Parts f m e → HasValue (float_round f (fin t m e)) s (ratio_round_half_up a c) 1
    go true q P = subst (λ z. HasValue (float_round f (fin true m e)) z (ratio_round_half_up a c) 1) q (at true P)
    go false q P = subst (λ z. HasValue (float_round f (fin false m e)) z (ratio_round_half_up a c) 1) q (at false P)

pub away-fits : (f : Format) (x : Float) → T (fits f (float_round f x))
unfolding round_with fits
away-fits f nan = tt
away-fits f (inf s) = tt
away-fits f (fin true m e) = round-fits f true (ratio_round_half_up (m * up e) (down e)) 1
away-fits f (fin false m e) = round-fits f false (ratio_round_half_up (m * up e) (down e)) 1

-- the pattern c is b rounded, if its value is
same_whole : (f : Format) (b c : ℕ) (s : Bool) (a q : ℕ) → HasValue (of_bits f b) s a (2 ^ low f) → ratio_round_half_up a (2 ^ low f) ≡ q → HasValue (of_bits f c) s q 1 → of_bits f c ≡ float_round f (of_bits f b)
same_whole f b c s a q h e v =
    whole_unique f (of_bits f c) (float_round f (of_bits f b)) s q (of_bits-fits f c) (away-fits f (of_bits f b)) v
    (subst (λ n. HasValue (float_round f (of_bits f b)) s n 1) e (away-value f (of_bits f b) s a (2 ^ low f) (pow_pos (low f)) h (of_bits-fits f b)))

-- the value of a pattern whose fields are known
at_fields : (f : Format) (b c : ℕ) (j t a : ℕ) → Placed f b c j t → HasValue (of_fields f (sign f b) j t) (sign f b) a (2 ^ low f) → HasValue (of_bits f c) (sign f b) a (2 ^ low f)
at_fields f b c j t a P h = subst (λ z. HasValue z (sign f b) a (2 ^ low f)) (sym (pattern-is f c (sign f b) j t P.same P.field P.digits)) h

here : (f : Format) (b j : ℕ) → exponent_field f b ≡ j → Placed f b b j (b % hid f)
here f b j e = record { same = refl; field = e; digits = refl }

-- ---- powers
below-pow : (f : Format) (m k n : ℕ) → m < 2 ^ prec f → prec f + k ≤ n → m * 2 ^ k < 2 ^ n
below-pow f m k n h l = lt_of_lt_of_le (shl_lt (prec f) k h) (pow_mono l)

double-pow : (f : Format) (m k n : ℕ) → m < 2 ^ prec f → suc (prec f + k) ≤ n → m * 2 ^ k * 2 < 2 ^ n
double-pow f m k n h l = lt_of_lt_of_le (step (m * 2 ^ k) (2 ^ (prec f + k)) (shl_lt (prec f) k h)) (le_trans (le_of_eq (sym (pow-suc 2 (prec f + k)))) (pow_mono l))
  where
    step : (a b : ℕ) → a < b → a * 2 < b * 2
    step a b h = omega arith

reach-pow : (f : Format) (m k n : ℕ) → hid f ≤ m → n ≤ prec f + k → 2 ^ n ≤ m * 2 ^ k * 2
reach-pow f m k n h l = le_trans (pow_mono l) (le_trans (le_of_eq (pow-add 2 (prec f) k)) (step (2 ^ prec f) (2 ^ k) (mul-le-mul_right (2 ^ k) (twice_hid f m h))))
  where
    step : (a p : ℕ) → a * p ≤ m * 2 * p → a * p ≤ m * p * 2
    step a p h = omega arith

-- ---- below 1 / 2
low_field : (f : Format) (j : ℕ) → suc j < emax f - 1 → (suc j < ones f) × (suc (prec f + (suc j - 1)) ≤ low f)
low_field binary32 j h = (omega arith, omega arith)
low_field binary64 j h = (omega arith, omega arith)

low-none : (f : Format) (t : ℕ) → t < hid f → t * 2 ^ 0 * 2 < 2 ^ low f
low-none f t h = double-pow f t 0 (low f) (lt_of_lt_of_le h (smaller f)) (room f)
  where
    smaller : (f : Format) → hid f ≤ 2 ^ prec f
    smaller binary32 = lit≤ tt
    smaller binary64 = lit≤ tt

    room : (f : Format) → suc (prec f + 0) ≤ low f
    room binary32 = lit≤ tt
    room binary64 = lit≤ tt

under-half : (f : Format) (s : Bool) (j t : ℕ) → j < emax f - 1 → t < hid f → (a : ℕ) × HasValue (of_fields f s j t) s a (2 ^ low f) × (ratio_round_half_up a (2 ^ low f) ≡ 0)
under-half f s zero t h k = (t * 2 ^ 0, fields-zero f s t, half-none (t * 2 ^ 0) (2 ^ low f) (low-none f t k))
under-half f s (suc j) t h k =
    let l = low_field f j h in
    ((hid f + t) * 2 ^ (suc j - 1), fields f s (suc j) t (zero-lt-suc j) l.0, half-none ((hid f + t) * 2 ^ (suc j - 1)) (2 ^ low f) (double-pow f (hid f + t) (suc j - 1) (low f) (lead-lt f t k) l.1))

round-low : (f : Format) (b : ℕ) → b < 2 * top f → exponent_field f b < emax f - 1 → of_bits f (sign_bit f b) ≡ float_round f (of_bits f b)
round-low f b B h =
    let s = sign f b in
    let j = exponent_field f b in
    let u = under-half f s j (b % hid f) h (digits_lt f b) in
    same_whole f b (sign_bit f b) s u.0 0 (at_fields f b b j (b % hid f) u.0 (here f b j refl) u.1) u.2
    (value-whole (of_bits f (sign_bit f b)) s (0 * 2 ^ 0) (2 ^ low f) 0 (pow_pos (low f)) (nothing (2 ^ low f)) (at_fields f b (sign_bit f b) 0 0 (0 * 2 ^ 0) (zero-placed f b B) (fields-zero f s 0)))
  where
    nothing : (d : ℕ) → 0 * 1 ≡ 0 * d
    nothing d = omega arith

-- ---- from 1 / 2 to 1
record Middle (f : Format) : Type 0 where
  pub some : 0 < emax f - 1
  pub inside : emax f - 1 < ones f
  pub one : 0 < emax f
  pub one_in : emax f < ones f
  pub above : low f ≤ prec f + (emax f - 1 - 1)
  pub under : prec f + (emax f - 1 - 1) ≤ low f
  pub unit : (hid f + 0) * 2 ^ (emax f - 1) ≡ 1 * 2 ^ low f

middle : (f : Format) → Middle f
middle binary32 = record { some = lit< tt; inside = lit< tt; one = lit< tt; one_in = lit< tt; above = lit≤ tt; under = lit≤ tt; unit = refl }
middle binary64 = record { some = lit< tt; inside = lit< tt; one = lit< tt; one_in = lit< tt; above = lit≤ tt; under = lit≤ tt; unit = refl }

round-one : (f : Format) (b : ℕ) → b < 2 * top f → exponent_field f b ≡ emax f - 1 → of_bits f (sign_bit f b + emax f * hid f) ≡ float_round f (of_bits f b)
round-one f b B h =
    let s = sign f b in
    let t = b % hid f in
    let c = sign_bit f b + emax f * hid f in
    let m = hid f + t in
    let k = emax f - 1 - 1 in
    let M = middle f in
    same_whole f b c s (m * 2 ^ k) 1 (at_fields f b b (emax f - 1) t (m * 2 ^ k) (here f b (emax f - 1) h) (fields f s (emax f - 1) t M.some M.inside))
    (half-one (m * 2 ^ k) (2 ^ low f) (pow_pos (low f)) (reach-pow f m k (low f) (lead-ge f t) M.above) (below-pow f m k (low f) (lead-lt f t (digits_lt f b)) M.under))
    (value-whole (of_bits f c) s ((hid f + 0) * 2 ^ (emax f - 1)) (2 ^ low f) 1 (pow_pos (low f)) M.unit (at_fields f b c (emax f) 0 ((hid f + 0) * 2 ^ (emax f - 1)) (one_placed f b B) (fields f s (emax f) 0 M.one M.one_in)))

-- ---- without digits after the point
special : (f : Format) (s : Bool) (t : ℕ) → of_fields f s (ones f) t ≡ float_round f (of_fields f s (ones f) t)
unfolding of_fields round_with
special f s t = go f (eqb t 0)
  where
    at : (f : Format) (c : Bool) → cond c (inf s) nan ≡ float_round f (cond c (inf s) nan)
    at f true = refl
    at f false = refl

    go : (f : Format) (c : Bool) → of_fields f s (ones f) t ≡ float_round f (of_fields f s (ones f) t)
    go binary32 c = at binary32 (eqb t 0)
    go binary64 c = at binary64 (eqb t 0)

high-field : (f : Format) (j : ℕ) → suc (low f) ≤ j → (0 < j) × (j - 1 ≡ j - 1 - low f + low f)
high-field binary32 j h = (omega arith, omega arith)
high-field binary64 j h = (omega arith, omega arith)

round-high : (f : Format) (b : ℕ) → suc (low f) ≤ exponent_field f b → of_bits f b ≡ float_round f (of_bits f b)
round-high f b h = go (ltb (exponent_field f b) (ones f)) (ltb→lt (exponent_field f b) (ones f)) (nltb→le (exponent_field f b) (ones f))
  where
    go : (c : Bool) → (T c → exponent_field f b < ones f) → (T (not c) → ones f ≤ exponent_field f b) → of_bits f b ≡ float_round f (of_bits f b)
    go true l g =
        let s = sign f b in
        let t = b % hid f in
        let j = exponent_field f b in
        let m = hid f + t in
        let k = j - 1 in
        let q = m * 2 ^ (k - low f) in
        let H = high-field f j h in
        let v = at_fields f b b j t (m * 2 ^ k) (here f b j refl) (fields f s j t H.0 (l tt)) in
        let e : m * 2 ^ k ≡ q * 2 ^ low f = ap (λ z. m * 2 ^ z) H.1 ∙ ap (λ z. m * z) (pow-add 2 (k - low f) (low f)) ∙ sym (mul_assoc m (2 ^ (k - low f)) (2 ^ low f)) in
        same_whole f b b s (m * 2 ^ k) q v (ap (λ z. ratio_round_half_up z (2 ^ low f)) e ∙ half-all q (2 ^ low f) (pow_pos (low f))) (value-whole (of_bits f b) s (m * 2 ^ k) (2 ^ low f) q (pow_pos (low f)) e v)
    go false l g =
        let x = pattern-is f b (sign f b) (ones f) (b % hid f) refl (field_top f b (g tt)) refl in
        x ∙ special f (sign f b) (b % hid f) ∙ sym (ap (λ z. float_round f z) x)

-- ---- with digits after the point
record Exponents (f : Format) (j : ℕ) : Type 0 where
  pub some : 0 < j
  pub inside : j < ones f
  pub more : 0 < j + 1
  pub more_in : j + 1 < ones f
  pub step : suc (low f) - j ≡ suc (low f - j)
  pub whole : suc (low f) - j + (j - emax f) ≡ prec f - 1
  pub all : j - 1 + (suc (low f) - j) ≡ low f
  pub next : j + 1 - 1 ≡ suc (j - 1)

exponents : (f : Format) (j : ℕ) → emax f ≤ j → j < suc (low f) → Exponents f j
exponents binary32 j J K = record { some = omega arith; inside = omega arith; more = omega arith; more_in = omega arith; step = omega arith; whole = omega arith; all = omega arith; next = omega arith }
exponents binary64 j J K = record { some = omega arith; inside = omega arith; more = omega arith; more_in = omega arith; step = omega arith; whole = omega arith; all = omega arith; next = omega arith }

two-hid : (f : Format) → hid f * 2 ≡ 2 ^ prec f
two-hid binary32 = refl
two-hid binary64 = refl

lead-back : (f : Format) (r : ℕ) → hid f ≤ r → hid f + (r - hid f) ≡ r
lead-back binary32 r h = omega arith
lead-back binary64 r h = omega arith

lead-none : (f : Format) (p : ℕ) → (hid f + 0) * (p * 2) ≡ 2 ^ prec f * p
lead-none binary32 p = omega arith
lead-none binary64 p = omega arith

round-mid : (f : Format) (b : ℕ) → b < 2 * top f → emax f ≤ exponent_field f b → exponent_field f b < suc (low f) → of_bits f (cut_at b (2 ^ (suc (low f) - exponent_field f b))) ≡ float_round f (of_bits f b)
round-mid f b B J K = go (ltb r (2 ^ prec f)) (ltb→lt r (2 ^ prec f)) (nltb→le r (2 ^ prec f))
  where
    j : ℕ
    j = exponent_field f b

    X : Exponents f (exponent_field f b)
    X = exponents f (exponent_field f b) J K

    u : ℕ
    u = 2 ^ (suc (low f) - exponent_field f b)

    h : ℕ
    h = 2 ^ (low f - exponent_field f b)

    w : ℕ
    w = 2 ^ (exponent_field f b - emax f)

    m : ℕ
    m = hid f + b % hid f

    p : ℕ
    p = 2 ^ (exponent_field f b - 1)

    uh : u ≡ h * 2
    uh = ap (λ z. 2 ^ z) X.step ∙ pow-suc 2 (low f - exponent_field f b)

    H : 0 < h
    H = pow_pos (low f - exponent_field f b)

    U : 0 < u
    U = pow_pos (suc (low f) - exponent_field f b)

    hu : u / 2 ≡ h
    hu = ap (λ z. z / 2) uh ∙ mul-div_cancel h (zero-lt-suc 1)

    uw : u * w ≡ hid f
    uw = sym (pow-add 2 (suc (low f) - exponent_field f b) (exponent_field f b - emax f)) ∙ ap (λ z. 2 ^ z) X.whole

    pu : p * u ≡ 2 ^ low f
    pu = sym (pow-add 2 (exponent_field f b - 1) (suc (low f) - exponent_field f b)) ∙ ap (λ z. 2 ^ z) X.all

    q : ℕ
    q = (m + h) / u

    r : ℕ
    r = (m + h) / u * u

    c : ℕ
    c = cut_at b u

    v : HasValue (of_bits f b) (sign f b) (m * p) (2 ^ low f)
    v = at_fields f b b (exponent_field f b) (b % hid f) (m * p) (here f b (exponent_field f b) refl) (fields f (sign f b) (exponent_field f b) (b % hid f) X.some X.inside)

    half : ratio_round_half_up (m * p) (2 ^ low f) ≡ q
    half = half-same (m * p) (2 ^ low f) m u (pow_pos (low f)) U (mul_assoc m p u ∙ ap (λ z. m * z) pu) ∙ ap (λ z. ratio_round_half_up m z) uh ∙ half-by m h H ∙ ap (λ z. (m + h) / z) (sym uh)

    ci : c ≡ (b / hid f - 1) * hid f + r
    ci =
        ap (λ z. (b + z) / u * u) hu
        ∙ ap (λ z. (z + h) / u * u) (split f b (reaches f b J))
        ∙ moved-is (b / hid f - 1) m h u w (hid f) uw U

    bs : (hid f ≤ r) × (r ≤ hid f * 2)
    bs = bounds m h u w (hid f) uh uw H (lead-ge f (b % hid f)) (lt_of_lt_of_le (lead-lt f (b % hid f) (digits_lt f b)) (le_of_eq (sym (two-hid f))))

    value : r * p ≡ q * 2 ^ low f
    value = mul_assoc q u p ∙ ap (λ z. q * z) (mul_comm u p ∙ pu)

    done : (i t n : ℕ) → Placed f b c i t → n ≡ q * 2 ^ low f → HasValue (of_fields f (sign f b) i t) (sign f b) n (2 ^ low f) → of_bits f c ≡ float_round f (of_bits f b)
    done i t n P e g = same_whole f b c (sign f b) (m * p) q v half (value-whole (of_bits f c) (sign f b) n (2 ^ low f) q (pow_pos (low f)) e (at_fields f b c i t n P g))

    go : (z : Bool) → (T z → r < 2 ^ prec f) → (T (not z) → 2 ^ prec f ≤ r) → of_bits f c ≡ float_round f (of_bits f b)
    go true l g =
        done (exponent_field f b) (r - hid f) ((hid f + (r - hid f)) * p) (stays f b r B J bs.0 (l tt) c ci) (ap (λ z. z * p) (lead-back f r bs.0) ∙ value)
        (fields f (sign f b) (exponent_field f b) (r - hid f) X.some X.inside)
    go false l g =
        let e : r ≡ 2 ^ prec f = le_antisymm (le_trans bs.1 (le_of_eq (two-hid f))) (g tt) in
        done (exponent_field f b + 1) 0 ((hid f + 0) * 2 ^ (exponent_field f b + 1 - 1)) (carries f b B J K c (ci ∙ ap (λ z. (b / hid f - 1) * hid f + z) e))
        (ap (λ z. (hid f + 0) * 2 ^ z) X.next ∙ ap (λ z. (hid f + 0) * z) (pow-suc 2 (exponent_field f b - 1)) ∙ lead-none f p ∙ ap (λ z. z * p) (sym e) ∙ value)
        (fields f (sign f b) (exponent_field f b + 1) 0 X.more X.more_in)

-- ---- all
less_one : (f : Format) (j : ℕ) → j < emax f → emax f - 1 ≤ j → j ≡ emax f - 1
less_one binary32 j h k = omega arith
less_one binary64 j h k = omega arith

pub round-bits : (f : Format) (b : ℕ) → b < 2 * top f → of_bits f (round_bits f b) ≡ float_round f (of_bits f b)
unfolding round_bits
round-bits f b B = go1 (ltb j (emax f - 1)) (ltb→lt j (emax f - 1)) (nltb→le j (emax f - 1))
  where
    j : ℕ
    j = exponent_field f b

    mid : ℕ
    mid = cut_at b (2 ^ (suc (low f) - exponent_field f b))

    R : Float
    R = float_round f (of_bits f b)

    go3 : (t : Bool) → (T t → exponent_field f b < suc (low f)) → (T (not t) → suc (low f) ≤ exponent_field f b) → emax f ≤ exponent_field f b → of_bits f (cond t mid b) ≡ R
    go3 true g h l = round-mid f b B l (g tt)
    go3 false g h l = round-high f b (h tt)

    go2 : (t : Bool) → (T t → exponent_field f b < emax f) → (T (not t) → emax f ≤ exponent_field f b) → emax f - 1 ≤ exponent_field f b → of_bits f (cond t (sign_bit f b + emax f * hid f) (cond (ltb j (suc (low f))) mid b)) ≡ R
    go2 true g h l = round-one f b B (less_one f (exponent_field f b) (g tt) l)
    go2 false g h l = go3 (ltb j (suc (low f))) (ltb→lt j (suc (low f))) (nltb→le j (suc (low f))) (h tt)

    go1 : (t : Bool) → (T t → exponent_field f b < emax f - 1) → (T (not t) → emax f - 1 ≤ exponent_field f b) → of_bits f (cond t (sign_bit f b) (cond (ltb j (emax f)) (sign_bit f b + emax f * hid f) (cond (ltb j (suc (low f))) mid b))) ≡ R
    go1 true g h = round-low f b B (g tt)
    go1 false g h = go2 (ltb j (emax f)) (ltb→lt j (emax f)) (nltb→le j (emax f)) (h tt)

-- as the code rounds: by the patterns b and c
pub round_joined : (f : Format) (x r : Float) (b c : ℕ) → b ≡ lib.Ieee.to_bits f x → x ≡ of_bits f b → c ≡ round_bits f b → r ≡ of_bits f (c % (2 * top f)) → r ≡ float_round f x
round_joined f x r b c is back C R =
    let B : b < 2 * top f = pattern_lt f x b is back in
    let M : c % (2 * top f) ≡ round_bits f b = ap (λ z. z % (2 * top f)) C ∙ mod-eq_of_lt (round_bits_lt f b B) in
    R ∙ ap (of_bits f) M ∙ round-bits f b B ∙ ap (float_round f) (sym back)
