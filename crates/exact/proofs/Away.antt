-- Rounding to a whole number, at every value of a format: the result is whole and within 1 / 2, and the difference is exact. And casts to whole numbers.
use Rattle.std.proofs.Common.{◌≡◌, ℕ, zero, suc, ◌+◌, ◌-◌, ◌*◌, ◌%◌, ◌^◌, ◌<◌, ◌≤◌, Bool, true, false, cond, not, ◌&&◌, T, eqb, ltb, leb, ℤ, pos, negsuc, ◌+ℤ◌, nat_abs, sym, refl, ap, ◌∙◌, subst, le_trans, le_of_eq, le_refl, lt_of_lt_of_le, le_of_suc-le-suc, lt_of_le_of_lt, le_of_lt, mul-le-mul_right, zero-lt-suc, mul_assoc, mul_comm, div-lt_iff_lt-mul, mul-pos, one-mul, lt_of_not-le, mul-one, not-le_of_lt, div-mul-le_self, le_of_mul-le-mul_right, arith, eqb→eq, ltb→lt, leb→le, pow_pos, pow_mono, pow-add, shl_lt}
use lib.Dec.{nleb→lt}
use lib.IntN.{sub_ℕ}
use lib.Pow.{pow-lt}
use lib.Ieee.{Float, Format, nan, inf, fin, prec, emax, low, up, down, round, sub, fits, to_signed}
use lib.Ieee.Fits.{down_pos, reach}
use lib.Ieee.Exact.{HasValue, round_exact}
use lib.Ieee.Scale.{finite}
use Rattle.std.specs.Float.{float_round, round_with, ratio_round_half_up}
use Rattle.exact.specs.Fraction.{Fraction, ◌≈◌, ◌⊕◌, ◌⊗◌, ◌⊖◌, whole, Size, Within, frac}
use Rattle.exact.specs.Value.{value_of, integer, signed}
use Rattle.exact.specs.Multiple.{dif, pw, Multiple}
use Rattle.exact.specs.Rounded.{Rounded}
pub use Rattle.exact.specs.Laws.{Away}
use Rattle.exact.proofs.Order.{≡-≈, size-≈, ≈-sym, ≈-refl, ≈-trans, ⊕-cong, ⊗-cong, ⊗-one, neg_cong, within-≈, within→size, size-⊑, within-sym}
use Rattle.exact.proofs.Closest.{split-pow}
use Rattle.exact.proofs.Rounding.{signed-value, sized, rounded-exact, sub-rounded}
use Rattle.exact.proofs.Powers.{Same}
use Rattle.exact.proofs.Narrow.{signed_is, to-int}
use Rattle.exact.proofs.Multiple.{signed_of, multiple-≈}

-- ---- what a value of a format is
pub record Parts (f : Format) (m : ℕ) (e : ℤ) : Type 0 where
  pub digits : m < 2 ^ prec f
  pub fine : down e ≤ 2 ^ low f
  pub under : m * up e < 2 ^ suc (emax f) * down e

only_one : (e : ℤ) → up e * down e ≡ 1 → down e ≡ 1
only_one (pos k) h = refl
only_one (negsuc k) h = sym (one-mul (2 ^ suc k)) ∙ h

pub fits-parts : (f : Format) (s : Bool) (m : ℕ) (e : ℤ) → T (fits f (fin s m e)) → Parts f m e
unfolding fits
fits-parts f s zero e t =
    let d = only_one e (eqb→eq (up e * down e) 1 t) in
    let p = pow_pos (suc (emax f)) in
    record { digits = pow_pos (prec f); fine = le_trans (le_of_eq d) (pow_pos (low f)); under = zero-times (up e) (2 ^ suc (emax f) * down e) (mul-pos p (down_pos e)) }
  where
    zero-times : (u b : ℕ) → 0 < b → 0 * u < b
    zero-times u b h = omega arith
fits-parts f s (suc m) e t =
    let a = eqb (suc m % 2) 1 in
    let b = ltb (suc m) (2 ^ prec f) in
    let c = leb (down e) (2 ^ low f) in
    let d = ltb (suc m * up e) (2 ^ suc (emax f) * down e) in
    record { digits = ltb→lt (suc m) (2 ^ prec f) (pick-b a b c d t); fine = leb→le (down e) (2 ^ low f) (pick-c a b c d t); under = ltb→lt (suc m * up e) (2 ^ suc (emax f) * down e) (pick-d a b c d t) }
  where
    pick-b : (a b c d : Bool) → T (a && b && c && d) → T b
    pick-b true true true true t = tt
    pick-b true true true false t = tt
    pick-b true true false d t = tt
    pick-b true false c d t = absurd t
    pick-b false b c d t = absurd t

    pick-c : (a b c d : Bool) → T (a && b && c && d) → T c
    pick-c true true true d t = tt
    pick-c true true false d t = absurd t
    pick-c true false c d t = absurd t
    pick-c false b c d t = absurd t

    pick-d : (a b c d : Bool) → T (a && b && c && d) → T d
    pick-d true true true d t = t
    pick-d true true false d t = absurd t
    pick-d true false c d t = absurd t
    pick-d false b c d t = absurd t

-- ---- half up
pub half-near : (n d : ℕ) → 0 < d → (ratio_round_half_up n d * d * 2 ≤ n * 2 + d) × (n * 2 ≤ ratio_round_half_up n d * d * 2 + d)
half-near n d D =
    let q = ratio_round_half_up n d in
    let D2 : 0 < 2 * d = omega arith in
    let a : q * (2 * d) ≤ 2 * n + d = div-mul-le_self (2 * n + d) (2 * d) in
    let b : 2 * n + d < suc q * (2 * d) = (div-lt_iff_lt-mul D2).0 (le_refl (suc q)) in
    (omega arith, omega arith)

-- a whole number stays
half-whole : (n : ℕ) → ratio_round_half_up n 1 ≡ n
half-whole n = omega arith

-- h * d is at most twice n
half_twice : (n d h : ℕ) → h * d * 2 ≤ n * 2 + d → h * d ≤ n * 2
half_twice n d zero g = omega arith
half_twice n d (suc h) g = omega arith

-- h is at most n, for a d of two or more
half-less : (n d h : ℕ) → 2 ≤ d → h * d ≤ n * 2 → h ≤ n
half-less n d h D g = le_of_mul-le-mul_right (le_trans (step (mul-le-mul_right h D)) g) (zero-lt-suc 1)
  where
    step : 2 * h ≤ d * h → h * 2 ≤ h * d
    step k = omega arith

two-le-pow : (k : ℕ) → 2 ≤ 2 ^ suc k
two-le-pow k = pow-lt {i = 0} {j = suc k} (zero-lt-suc k)

room : (f : Format) → prec f + low f ≤ low f + suc (emax f)
room f = let h = reach f in omega arith

small-exact : (f : Format) (s : Bool) (n : ℕ) → n < 2 ^ prec f → HasValue (round f s n 1) s n 1
small-exact f s n h = round_exact f s n 1 n (low f) (zero-lt-suc 0) h (lt_of_lt_of_le (shl_lt (prec f) (low f) h) (pow_mono (room f))) (sym (mul-one (n * 2 ^ low f)))

large-exact : (f : Format) (s : Bool) (m k : ℕ) → m < 2 ^ prec f → m * 2 ^ k < 2 ^ suc (emax f) → HasValue (round f s (m * 2 ^ k) 1) s (m * 2 ^ k) 1
large-exact f s m k h u =
    round_exact f s (m * 2 ^ k) 1 m (k + low f) (zero-lt-suc 0) h
    (lt_of_le_of_lt (le_of_eq (ap (λ x. m * x) (pow-add 2 k (low f)) ∙ sym (mul_assoc m (2 ^ k) (2 ^ low f)))) (lt_of_lt_of_le (shl_lt (suc (emax f)) (low f) u) (pow_mono (le_of_eq (turn (emax f) (low f))))))
    (mul_assoc m (2 ^ k) (2 ^ low f) ∙ sym (ap (λ x. m * x) (pow-add 2 k (low f))) ∙ sym (mul-one (m * 2 ^ (k + low f))))
  where
    turn : (a b : ℕ) → suc a + b ≡ b + suc a
    turn a b = omega arith

pub away-exact : (f : Format) (s : Bool) (m : ℕ) (e : ℤ) → Parts f m e → HasValue (round f s (ratio_round_half_up (m * up e) (down e)) 1) s (ratio_round_half_up (m * up e) (down e)) 1
away-exact f s m (pos k) P = subst (λ n. HasValue (round f s n 1) s n 1) (sym (half-whole (m * 2 ^ k))) (large-exact f s m k P.digits (lt_of_lt_of_le P.under (le_of_eq (mul-one (2 ^ suc (emax f))))))
away-exact f s m (negsuc k) P =
    let d = 2 ^ suc k in
    let h = half-near (m * 1) d (pow_pos (suc k)) in
    let g : ratio_round_half_up (m * 1) d ≤ m = le_trans (half-less (m * 1) d (ratio_round_half_up (m * 1) d) (two-le-pow k) (half_twice (m * 1) d (ratio_round_half_up (m * 1) d) h.0)) (le_of_eq (mul-one m)) in
    small-exact f s (ratio_round_half_up (m * 1) d) (lt_of_le_of_lt g P.digits)

apart : (s : Bool) (q n d : ℕ) (ok : 0 < d) (o : 0 < 1) → q * d * 2 ≤ n * 2 + d → n * 2 ≤ q * d * 2 + d → Within (signed s q 1 o) (signed s n d ok) (frac 1 2)
apart false q n d ok o h k = record { below = record { le = omega arith }; above = record { le = omega arith } }
apart true q n d ok o h k = record { below = record { le = omega arith }; above = record { le = omega arith } }

-- ---- the value as a sign and a size
pub value-signed : (s : Bool) (m : ℕ) (e : ℤ) → value_of (fin s m e) ≈ signed s (m * up e) (down e) (down_pos e)
value-signed s m e = ≡-≈ (signed_is s m e)

-- ---- the difference
-- |m - h d| is at most m
pub record Rest (s : Bool) (m h d : ℕ) (ok : 0 < d) : Type 0 where
  pub sign : Bool
  pub q : ℕ
  pub less : q ≤ m
  pub of : signed s m d ok ⊖ signed s h 1 (zero-lt-suc 0) ≈ signed sign q d ok

rest : (s : Bool) (m h d : ℕ) (ok : 0 < d) → h * d ≤ m * 2 → Rest s m h d ok
rest s m h d ok g = go s (leb (h * d) m) (leb→le (h * d) m) (nleb→lt (h * d) m)
  where
    over_by : (r : ℕ) (s : Bool) → r + h * d ≡ m → signed s m d ok ⊖ signed s h 1 (zero-lt-suc 0) ≈ signed s r d ok
    over_by r false e = record { eq = rw (← e) (omega arith) }
    over_by r true e = record { eq = rw (← e) (omega arith) }

    under-by : (r : ℕ) (s : Bool) → r + m ≡ h * d → signed s m d ok ⊖ signed s h 1 (zero-lt-suc 0) ≈ signed (not s) r d ok
    under-by r false e = record { eq = omega (arith, ap (λ x. x * d) e) }
    under-by r true e = record { eq = omega (arith, ap (λ x. x * d) e) }

    go : (s t : Bool) → (T t → h * d ≤ m) → (T (not t) → m < h * d) → Rest s m h d ok
    go s true a b = let z = a tt in record { sign = s; q = m - h * d; less = omega arith; of = over_by (m - h * d) s (omega arith) }
    go s false a b = let z = b tt in record { sign = not s; q = h * d - m; less = omega arith; of = under-by (h * d - m) s (omega arith) }

pub pow_le_back : (a b : ℕ) → 2 ^ a ≤ 2 ^ b → a ≤ b
pow_le_back a b h = le_of_suc-le-suc (lt_of_not-le (λ (g : suc b ≤ a). not-le_of_lt (pow-lt g) h))

-- ±q / d for a q up to m
shrink-core : (q m d bp bm bd : ℕ) → q * bd ≤ m * bd → m * bd + bm * d ≤ bp * d → q * bd + bm * d ≤ bp * d
shrink-core q m d bp bm bd h k = omega arith

made : (s : Bool) (n d : ℕ) (ok : 0 < d) (b : Fraction) → b.minus * d ≤ b.plus * d → n * b.den + b.minus * d ≤ b.plus * d → Size (signed s n d ok) b
made false n d ok b z h = record { below = record { le = omega arith }; above = record { le = omega arith } }
made true n d ok b z h = record { below = record { le = omega arith }; above = record { le = omega arith } }

pub shrink : (s t : Bool) (q m d : ℕ) (ok : 0 < d) (b : Fraction) → q ≤ m → Size (signed s m d ok) b → Size (signed t q d ok) b
shrink s t q m d ok b h k =
    let z = sized s m d ok b k in
    made t q d ok b (omega arith) (shrink-core q m d b.plus b.minus b.den (mul-le-mul_right b.den h) z)

one-times : (s : Bool) (q : ℕ) → Multiple (signed s q 1 (zero-lt-suc 0)) (whole 1)
one-times false q = record { p = q; m = 0; is = record { eq = omega arith } }
one-times true q = record { p = 0; m = q; is = record { eq = omega arith } }

shift : (s : Bool) (q d g l : ℕ) (ok : 0 < d) (lok : 0 < l) → g * d ≡ l → signed s q d ok ≈ signed s (q * g) l lok
shift false q d g l ok lok e = record { eq = rw (← e) (omega arith) }
shift true q d g l ok lok e = record { eq = rw (← e) (omega arith) }

nothing : (s : Bool) (n l : ℕ) (o : 0 < 1) (lok : 0 < l) → signed s n 1 o ⊖ signed s n 1 (zero-lt-suc 0) ≈ signed false (0 * 2 ^ 0) l lok
nothing false n l o lok = record { eq = omega arith }
nothing true n l o lok = record { eq = omega arith }

away-at : (f : Format) (s : Bool) (m : ℕ) (e : ℤ) → Parts f m e → Away f (round f s (ratio_round_half_up (m * up e) (down e)) 1) (fin s m e)
away-at f s m e P =
    let n = m * up e in
    let d = down e in
    let h = ratio_round_half_up n d in
    let r = round f s h 1 in
    let v = signed-value r s h 1 (zero-lt-suc 0) (away-exact f s m e P) in
    let k = half-near n d (down_pos e) in
    let w = value-signed s m e in
    let a : value_of (fin s m e) ⊖ value_of r ≈ signed s n d (down_pos e) ⊖ signed s h 1 (zero-lt-suc 0) = ⊕-cong w (neg_cong v.1) in
    record {
      fin = v.0;
      integral = multiple-≈ (≈-sym v.1) (one-times s h);
      near = within-≈ (≈-sym v.1) (≈-sym w) (apart s h n d (down_pos e) (zero-lt-suc 0) k.0 k.1);
      exact = go e P h r (half_twice n d h k.0) (same-when e) (sub-rounded f (fin s m e) r tt v.0) a;
      less = fall e h r (half_twice n d h k.0) (same-when e) a;
    }
  where
    fall : (e : ℤ) (h : ℕ) (r : Float) → h * down e ≤ m * up e * 2 → ((k : ℕ) → e ≡ pos k → h ≡ m * 2 ^ k) → value_of (fin s m e) ⊖ value_of r ≈ signed s (m * up e) (down e) (down_pos e) ⊖ signed s h 1 (zero-lt-suc 0)
        → (B : Fraction) → Size (value_of (fin s m e)) B → Size (value_of (fin s m e) ⊖ value_of r) B
    fall e h r g same a B z =
        let t = rest s (m * up e) h (down e) (down_pos e) g in
        size-≈ (≈-sym (≈-trans a t.of)) (shrink s t.sign t.q (m * up e) (down e) (down_pos e) B t.less (size-≈ (value-signed s m e) z))

    same-when : (e : ℤ) → (k : ℕ) → e ≡ pos k → ratio_round_half_up (m * up e) (down e) ≡ m * 2 ^ k
    same-when e k q = subst (λ z. ratio_round_half_up (m * up z) (down z) ≡ m * 2 ^ k) (sym q) (half-whole (m * 2 ^ k))

    go : (e : ℤ) → Parts f m e → (h : ℕ) (r : Float) → h * down e ≤ m * up e * 2 → ((k : ℕ) → e ≡ pos k → h ≡ m * 2 ^ k) → Rounded f (sub f (fin s m e) r) (value_of (fin s m e) ⊖ value_of r)
        → value_of (fin s m e) ⊖ value_of r ≈ signed s (m * up e) (down e) (down_pos e) ⊖ signed s h 1 (zero-lt-suc 0) → Same (sub f (fin s m e) r) (value_of (fin s m e) ⊖ value_of r)
    go (pos k) P h r g same R a =
        let b : value_of (fin s m (pos k)) ⊖ value_of r ≈ signed false (0 * 2 ^ 0) (2 ^ low f) (pow_pos (low f)) = ≈-trans a (subst (λ z. signed s (m * 2 ^ k) 1 (down_pos (pos k)) ⊖ signed s z 1 (zero-lt-suc 0) ≈ signed false (0 * 2 ^ 0) (2 ^ low f) (pow_pos (low f))) (sym (same k refl)) (nothing s (m * 2 ^ k) (2 ^ low f) (down_pos (pos k)) (pow_pos (low f)))) in
        let y = rounded-exact f (sub f (fin s m (pos k)) r) (value_of (fin s m (pos k)) ⊖ value_of r) false 0 0 R (pow_pos (prec f)) (pow_pos (low f + suc (emax f))) b in
        record { fin = y.0; is = y.1 }
    go (negsuc k) P h r g same R a =
        let d = 2 ^ suc k in
        let t = rest s (m * 1) h d (down_pos (negsuc k)) g in
        let K : suc k ≤ low f = pow_le_back (suc k) (low f) P.fine in
        let j = low f - suc k in
        let E : 2 ^ j * d ≡ 2 ^ low f = split-pow (low f) (suc k) K in
        let Q : t.q < 2 ^ prec f = lt_of_le_of_lt (le_trans t.less (le_of_eq (mul-one m))) P.digits in
        let I : t.q * 2 ^ j < 2 ^ (low f + suc (emax f)) = lt_of_lt_of_le (shl_lt (prec f) j Q) (pow_mono (le_trans (fewer (prec f) (low f) (suc k)) (room f))) in
        let y = rounded-exact f (sub f (fin s m (negsuc k)) r) (value_of (fin s m (negsuc k)) ⊖ value_of r) t.sign t.q j R Q I (≈-trans a (≈-trans t.of (shift t.sign t.q d (2 ^ j) (2 ^ low f) (down_pos (negsuc k)) (pow_pos (low f)) E))) in
        record { fin = y.0; is = y.1 }
      where
        fewer : (p l k : ℕ) → p + (l - k) ≤ p + l
        fewer p l k = omega arith

pub away : (f : Format) (x : Float) → T (finite x) → T (fits f x) → Away f (float_round f x) x
unfolding round_with
away f nan p h = absurd p
away f (inf s) p h = absurd p
away f (fin false m e) p h = away-at f false m e (fits-parts f false m e h)
away f (fin true m e) p h = away-at f true m e (fits-parts f true m e h)

pub away-small : {f : Format} {r x : Float} → Away f r x → Size (value_of x ⊖ value_of r) (frac 1 2)
away-small h = within→size (within-sym h.near)

-- ---- casts to a whole number
signed-under : (s : Bool) (q b : ℕ) → Size (signed s q 1 (zero-lt-suc 0)) (whole b) → q ≤ b
signed-under false q b h = omega (arith, h.below.le)
signed-under true q b h = omega (arith, h.above.le)

pub cast-exact : (h b : ℕ) (x : Float) → T (finite x) → Multiple (value_of x) (whole 1) → Size (value_of x) (whole b) → b < 2 ^ h → integer (to_signed h x) ≈ value_of x
cast-exact h b x p M S B =
    let g = signed_of M.p M.m in
    let v : value_of x ≈ signed g.sign g.size 1 (zero-lt-suc 0) = ≈-trans M.is (≈-trans (⊗-one (dif M.p M.m)) g.of) in
    to-int h x g.sign g.size (zero-lt-suc 0) p v (lt_of_le_of_lt (signed-under g.sign g.size b (size-≈ v S)) B)

-- ---- whole numbers
pub int-sub : (a b : ℕ) → integer (sub_ℕ a b) ≈ dif a b
int-sub a b = go (ltb a b) (ltb→lt a b) (lib.Dec.nltb→le a b)
  where
    go : (t : Bool) → (T t → a < b) → (T (not t) → b ≤ a) → integer (cond t (negsuc (b - suc a)) (pos (a - b))) ≈ dif a b
    go true f g = let h = f tt in record { eq = omega arith }
    go false f g = let h = g tt in record { eq = omega arith }

pub int-add : (x y : ℤ) → integer (x +ℤ y) ≈ integer x ⊕ integer y
int-add (pos a) (pos b) = record { eq = omega arith }
int-add (pos a) (negsuc b) = ≈-trans (int-sub a (suc b)) (record { eq = omega arith })
int-add (negsuc a) (pos b) = ≈-trans (int-sub b (suc a)) (record { eq = omega arith })
int-add (negsuc a) (negsuc b) = record { eq = omega arith }

pub int-size : (z : ℤ) (b : ℕ) → Size (integer z) (whole b) → nat_abs z ≤ b
int-size (pos n) b h = omega (arith, h.below.le)
int-size (negsuc n) b h = omega (arith, h.above.le)

-- a whole number times u
pub int-multiple : (z : ℤ) (u : Fraction) → Multiple (integer z ⊗ u) u
int-multiple (pos n) u = record { p = n; m = 0; is = ≈-refl (whole n ⊗ u) }
int-multiple (negsuc n) u = record { p = 0; m = suc n; is = ≈-refl (dif 0 (suc n) ⊗ u) }

-- a whole multiple, as a whole number
pub int_of : {v u : Fraction} (M : Multiple v u) → v ≈ integer (sub_ℕ M.p M.m) ⊗ u
int_of {v} {u} M = ≈-trans M.is (⊗-cong (≈-sym (int-sub M.p M.m)) (≈-refl u))

-- ---- a value of a format, up to 2 ^ prec in size, as a multiple of a power of two
pub record Grid (f : Format) (x : Float) : Type 0 where
  pub place : ℕ
  pub under : place ≤ low f
  pub grid : Multiple (value_of x) (pw place (low f))
  pub size : Size (value_of x) (pw (place + prec f) (low f))

scaled-grid : (s : Bool) (m d g l : ℕ) (ok : 0 < d) (lok : 0 < l) → g * d ≡ l → Multiple (signed s m d ok) (record { plus = g; minus = 0; den = l; ok = lok })
scaled-grid false m d g l ok lok e = record { p = m; m = 0; is = record { eq = rw (← e) (omega arith) } }
scaled-grid true m d g l ok lok e = record { p = 0; m = m; is = record { eq = rw (← e) (omega arith) } }

whole-grid : (s : Bool) (n l : ℕ) (o : 0 < 1) (lok : 0 < l) → Multiple (signed s n 1 o) (record { plus = l; minus = 0; den = l; ok = lok })
whole-grid false n l o lok = record { p = n; m = 0; is = record { eq = omega arith } }
whole-grid true n l o lok = record { p = 0; m = n; is = record { eq = omega arith } }

scaled-size : (s : Bool) (m d g l w : ℕ) (ok : 0 < d) (lok : 0 < l) → g * d ≡ l → m * g * d ≤ w * d → Size (signed s m d ok) (record { plus = w; minus = 0; den = l; ok = lok })
scaled-size false m d g l w ok lok e h = record { below = record { le = rw (← e) (omega arith) }; above = record { le = omega arith } }
scaled-size true m d g l w ok lok e h = record { below = record { le = omega arith }; above = record { le = rw (← e) (omega arith) } }

pub grid-of : (f : Format) (x : Float) → T (finite x) → T (fits f x) → Size (value_of x) (pw (prec f) 0) → Grid f x
grid-of f nan p h z = absurd p
grid-of f (inf s) p h z = absurd p
grid-of f (fin s m e) p h z = go e (fits-parts f s m e h) z
  where
    one : (a b : ℕ) → a + (b + b) ≡ b + (a + b)
    one a b = omega arith

    go : (e : ℤ) → Parts f m e → Size (value_of (fin s m e)) (pw (prec f) 0) → Grid f (fin s m e)
    go (pos k) P z = record {
      place = low f;
      under = le_refl (low f);
      grid = multiple-≈ (≈-sym (value-signed s m (pos k))) (whole-grid s (m * 2 ^ k) (2 ^ low f) (down_pos (pos k)) (pow_pos (low f)));
      size = size-⊑ (Rattle.exact.proofs.Multiple.pw-le (prec f) 0 (low f + prec f) (low f) (omega arith)) z;
    }
    go (negsuc k) P z =
        let d = 2 ^ suc k in
        let K : suc k ≤ low f = pow_le_back (suc k) (low f) P.fine in
        let j = low f - suc k in
        let E : 2 ^ j * d ≡ 2 ^ low f = split-pow (low f) (suc k) K in
        let Q : m * 2 ^ j ≤ 2 ^ (j + prec f) = le_trans (mul-le-mul_right (2 ^ j) (le_of_lt P.digits)) (le_of_eq (mul_comm (2 ^ prec f) (2 ^ j) ∙ sym (pow-add 2 j (prec f)))) in
        record {
          place = j;
          under = omega arith;
          grid = multiple-≈ (≈-sym (value-signed s m (negsuc k))) (subst (λ n. Multiple (signed s n d (down_pos (negsuc k))) (pw j (low f))) (sym (mul-one m)) (scaled-grid s m d (2 ^ j) (2 ^ low f) (down_pos (negsuc k)) (pow_pos (low f)) E));
          size = size-≈ (≈-sym (value-signed s m (negsuc k))) (subst (λ n. Size (signed s n d (down_pos (negsuc k))) (pw (j + prec f) (low f))) (sym (mul-one m)) (scaled-size s m d (2 ^ j) (2 ^ low f) (2 ^ (j + prec f)) (down_pos (negsuc k)) (pow_pos (low f)) E (mul-le-mul_right d Q)));
        }
