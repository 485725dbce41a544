-- The basic theorem of rounding, and that each operation on finite floats is an exact operation, rounded.
use Rattle.std.proofs.Common.{◌≡◌, ℕ, zero, suc, ◌+◌, ◌-◌, ◌*◌, ◌/◌, ◌^◌, ◌<◌, ◌≤◌, Bool, true, false, cond, not, ◌&&◌, T, eqb, ltb, sym, refl, ap, subst, le_trans, le_of_eq, le_refl, lt_of_le_of_lt, mul-le-mul_right, zero-lt-suc, div-lt_iff_lt-mul, mul-pos, pow-suc, mul_right_comm, le_of_mul-le-mul_right, arith, ltb→lt, nltb→le, pow_pos}
use Prim.Native.Nat.compare
use native.Mathlib.Nat.{mul-sub}
use lib.Dec.{compare_is_eq}
use lib.Pow.{pow-lt}
use lib.Ieee.{Float, Format, nan, inf, fin, prec, emax, low, up, down, unlike, size, round, sum, add, sub, neg as negate, mul, div}
use lib.Ieee.Digits.{size-lt}
use lib.Ieee.Fits.{two, round_is, up_pos, down_pos}
use lib.Ieee.Exact.{HasValue, units_val, round_exact}
use lib.Ieee.Order.{drop, kept}
use lib.Ieee.Scale.{finite}
use Rattle.std.specs.Float.{round_to_format}
use Rattle.exact.specs.Fraction.{Fraction, ◌≈◌, ◌⊕◌, ◌⊗◌, ◌⊖◌, neg, whole, Size, Within}
use Rattle.exact.specs.Rounded.{Rounded, place, half, error_of, in_range, units}
use Rattle.exact.specs.Value.{value_of, signed, Good}
use Rattle.exact.proofs.Closest.{grid_of, gridded}
use Rattle.exact.proofs.Order.{⊑_trans, ≈→⊑, ≈→⊒, ≈-sym, ≈-refl, ≈-trans, within-≈, ⊕-cong}

-- ---- a value as a signed fraction
pub signed-value : (x : Float) (s : Bool) (a c : ℕ) (ok : 0 < c) → HasValue x s a c → T (finite x) × (value_of x ≈ signed s a c ok)
signed-value nan s a c ok h = absurd h
signed-value (inf t) s a c ok h = absurd h
signed-value (fin t m e) s a c ok h = (tt, go t s h.0)
  where
    same : (t : Bool) → value_of (fin t m e) ≈ signed t a c ok
    same true = record { eq = omega (arith, h.1) }
    same false = record { eq = omega (arith, h.1) }

    go : (t s : Bool) → t ≡ s → value_of (fin t m e) ≈ signed s a c ok
    go t s q = subst (λ z. value_of (fin t m e) ≈ signed z a c ok) q (same t)

-- ---- the basic theorem
-- g / l against num / d, with h = 2 * l
pub close : (s : Bool) (g num d l w h : ℕ) (ok : 0 < d) (lok : 0 < l) (hok : 0 < h) → h ≡ l * 2 → (g * d * 2) * l ≤ (num * l * 2 + d * w) * l → (num * l * 2) * l ≤ (g * d * 2 + d * w) * l
    → Within (signed s g l lok) (signed s num d ok) (record { plus = w; minus = 0; den = h; ok = hok })
close false g num d l w h ok lok hok e a b = record { below = record { le = rw e (omega (arith, a)) }; above = record { le = rw e (omega (arith, b)) } }
close true g num d l w h ok lok hok e a b = record { below = record { le = rw e (omega (arith, b)) }; above = record { le = rw e (omega (arith, a)) } }

pub round-has : (f : Format) (s : Bool) (num d : ℕ) → grid_of (prec f) (num * 2 ^ low f) d < 2 ^ (low f + suc (emax f)) → HasValue (round f s num d) s (grid_of (prec f) (num * 2 ^ low f) d) (2 ^ low f)
round-has f s num d h = subst (λ (z : Float). HasValue z s (grid_of (prec f) (num * 2 ^ low f) d) (2 ^ low f)) (sym (round_is f s num d)) (units_val f s (kept (prec f) (num * 2 ^ low f) d) (drop (prec f) (num * 2 ^ low f) d) h)

pub round-near : (f : Format) (s : Bool) (num d j : ℕ) (ok : 0 < d) → num * 2 ^ low f ≤ 2 ^ j * d → j < low f + suc (emax f)
    → Good (round f s num d) (signed s num d ok) (half f j)
round-near f s num d j ok h J =
    let n = num * 2 ^ low f in
    let g = gridded (prec f) n d j (two f) ok h in
    let v = signed-value (round f s num d) s (grid_of (prec f) n d) (2 ^ low f) (pow_pos (low f)) (round-has f s num d (lt_of_le_of_lt g.small (pow-lt J))) in
    record {
      fin = v.0;
      near =
          within-≈ (≈-sym v.1) (≈-refl (signed s num d ok))
          (close s (grid_of (prec f) n d) num d (2 ^ low f) (2 ^ (j - prec f)) (2 ^ suc (low f)) ok (pow_pos (low f)) (pow_pos (suc (low f))) (pow-suc 2 (low f))
          (mul-le-mul_right (2 ^ low f) g.near.0) (mul-le-mul_right (2 ^ low f) g.near.1));
    }

-- and the rounded value is at most 2 ^ j units
pub flat : (s : Bool) (g l w : ℕ) (lok : 0 < l) → g * l ≤ w * l → Size (signed s g l lok) (record { plus = w; minus = 0; den = l; ok = lok })
flat false g l w lok h = record { below = record { le = omega arith }; above = record { le = omega arith } }
flat true g l w lok h = record { below = record { le = omega arith }; above = record { le = omega arith } }

pub round-held : (f : Format) (s : Bool) (num d j : ℕ) → 0 < d → num * 2 ^ low f ≤ 2 ^ j * d → j < low f + suc (emax f) → Size (value_of (round f s num d)) (units f j)
round-held f s num d j ok h J =
    let n = num * 2 ^ low f in
    let g = gridded (prec f) n d j (two f) ok h in
    let v = signed-value (round f s num d) s (grid_of (prec f) n d) (2 ^ low f) (pow_pos (low f)) (round-has f s num d (lt_of_le_of_lt g.small (pow-lt J))) in
    let z = flat s (grid_of (prec f) n d) (2 ^ low f) (2 ^ j) (pow_pos (low f)) (mul-le-mul_right (2 ^ low f) g.small) in
    record { below = ⊑_trans (≈→⊑ v.1) z.below; above = ⊑_trans z.above (≈→⊒ v.1) }

-- ---- from a bound to a place
pub ceil : (x d : ℕ) → 0 < d → x ≤ ((x + (d - 1)) / d) * d
ceil x d D =
    let q = (x + (d - 1)) / d in
    let h : x + (d - 1) < suc q * d = (div-lt_iff_lt-mul D).0 (le_refl (suc q)) in
    omega arith

up_to : (n : ℕ) → n ≤ 2 ^ size (n - 1)
up_to n = let h : n - 1 < 2 ^ size (n - 1) = size-lt (n - 1) in omega arith

-- num * l * bd ≤ (bp - bm) * l * d
spread : (num d bp bm bd l : ℕ) → num * bd + bm * d ≤ bp * d → num * l * bd ≤ (bp - bm) * l * d
spread num d bp bm bd l h =
    let e : d * (bp - bm) ≡ d * bp - d * bm = mul-sub d bp bm in
    let a : num * bd ≤ d * (bp - bm) = rw e (omega arith) in
    again (bp - bm) (mul-le-mul_right l a)
  where
    again : (k : ℕ) → num * bd * l ≤ d * k * l → num * l * bd ≤ k * l * d
    again k q = omega (arith, q)

pub placed : (f : Format) (num d : ℕ) (b : Fraction) → num * b.den + b.minus * d ≤ b.plus * d → num * 2 ^ low f ≤ 2 ^ place f b * d
placed f num d b h =
    let l = 2 ^ low f in
    let t = (b.plus - b.minus) * l in
    let x : num * l * b.den ≤ t * d = spread num d b.plus b.minus b.den l h in
    let c : t ≤ ((t + (b.den - 1)) / b.den) * b.den = ceil t b.den b.ok in
    let q = (t + (b.den - 1)) / b.den in
    let y : num * l ≤ q * d = le_of_mul-le-mul_right (le_trans x (le_trans (mul-le-mul_right d c) (le_of_eq (mul_right_comm q b.den d)))) b.ok in
    le_trans y (mul-le-mul_right d (up_to q))

pub sized : (s : Bool) (num d : ℕ) (ok : 0 < d) (b : Fraction) → Size (signed s num d ok) b → num * b.den + b.minus * d ≤ b.plus * d
sized false num d ok b h = omega (arith, h.below.le)
sized true num d ok b h = omega (arith, h.above.le)

pub rounded-near : (f : Format) (r : Float) (a b : Fraction) → Rounded f r a → Size a b → T (in_range f b) → Good r a (error_of f b)
rounded-near f r a b R h t =
    let z : Size (signed R.sign R.num R.over R.ok) b = record { below = ⊑_trans (≈→⊑ R.of) h.below; above = ⊑_trans h.above (≈→⊒ R.of) } in
    let g = round-near f R.sign R.num R.over (place f b) R.ok (placed f R.num R.over b (sized R.sign R.num R.over R.ok b z)) (ltb→lt (place f b) (low f + suc (emax f)) t) in
    subst (λ x. Good x a (error_of f b)) (sym R.is) (record { fin = g.fin; near = within-≈ (≈-refl (value_of (round f R.sign R.num R.over))) R.of g.near })

pub rounded-held : (f : Format) (r : Float) (a b : Fraction) → Rounded f r a → Size a b → T (in_range f b) → Size (value_of r) (units f (place f b))
rounded-held f r a b R h t =
    let z : Size (signed R.sign R.num R.over R.ok) b = record { below = ⊑_trans (≈→⊑ R.of) h.below; above = ⊑_trans h.above (≈→⊒ R.of) } in
    let g = round-held f R.sign R.num R.over (place f b) R.ok (placed f R.num R.over b (sized R.sign R.num R.over R.ok b z)) (ltb→lt (place f b) (low f + suc (emax f)) t) in
    subst (λ x. Size (value_of x) (units f (place f b))) (sym R.is) g

-- ---- the operations on finite floats
pub round-rounded : (f : Format) (s : Bool) (num d : ℕ) (ok : 0 < d) → Rounded f (round f s num d) (signed s num d ok)
round-rounded f s num d ok = record { sign = s; num = num; over = d; ok = ok; is = refl; of = ≈-refl (signed s num d ok) }

pub mul-rounded : (f : Format) (x y : Float) → T (finite x) → T (finite y) → Rounded f (mul f x y) (value_of x ⊗ value_of y)
unfolding mul
mul-rounded f nan y p q = absurd p
mul-rounded f (inf s) y p q = absurd p
mul-rounded f (fin s m e) nan p q = absurd q
mul-rounded f (fin s m e) (inf t) p q = absurd q
mul-rounded f (fin s m e) (fin t n d) p q =
    record { sign = unlike s t; num = m * up e * (n * up d); over = down e * down d; ok = mul-pos (down_pos e) (down_pos d); is = refl; of = go s t }
  where
    go : (s t : Bool) → signed (unlike s t) (m * up e * (n * up d)) (down e * down d) (mul-pos (down_pos e) (down_pos d)) ≈ value_of (fin s m e) ⊗ value_of (fin t n d)
    go true true = record { eq = omega arith }
    go true false = record { eq = omega arith }
    go false true = record { eq = omega arith }
    go false false = record { eq = omega arith }

-- ±a / c + ±b / c, of `sum`
off-a : (s : Bool) (k b a c : ℕ) (ok : 0 < c) → k + b ≡ a → signed s k c ok ≈ signed s a c ok ⊕ signed (not s) b c ok
off-a false k b a c ok e = record { eq = rw (← e) (omega arith) }
off-a true k b a c ok e = record { eq = rw (← e) (omega arith) }

off-b : (s : Bool) (k b a c : ℕ) (ok : 0 < c) → k + a ≡ b → signed (not s) k c ok ≈ signed s a c ok ⊕ signed (not s) b c ok
off-b false k b a c ok e = record { eq = rw (← e) (omega arith) }
off-b true k b a c ok e = record { eq = rw (← e) (omega arith) }

pub sum-rounded : (f : Format) (s : Bool) (a : ℕ) (t : Bool) (b c : ℕ) (ok : 0 < c) (v : Fraction) → signed s a c ok ⊕ signed t b c ok ≈ v → Rounded f (sum f s a t b c) v
unfolding sum
sum-rounded f true a true b c ok v h = record { sign = true; num = a + b; over = c; ok = ok; is = refl; of = ≈-trans (record { eq = omega arith }) h }
sum-rounded f false a false b c ok v h = record { sign = false; num = a + b; over = c; ok = ok; is = refl; of = ≈-trans (record { eq = omega arith }) h }
sum-rounded f true a false b c ok v h = go (ltb a b) (ltb→lt a b) (nltb→le a b)
  where
    pick : (w : Bool) → b ≤ a → (T (not w) → a ≤ b) → Rounded f (round f w (a - b) c) v
    pick true g k = record { sign = true; num = a - b; over = c; ok = ok; is = refl; of = ≈-trans (off-a true (a - b) b a c ok (omega arith)) h }
    pick false g k = let y = k tt in record { sign = false; num = a - b; over = c; ok = ok; is = refl; of = ≈-trans (off-b true (a - b) b a c ok (omega arith)) h }

    go : (u : Bool) → (T u → a < b) → (T (not u) → b ≤ a) → Rounded f (cond u (round f false (b - a) c) (round f (true && ltb b a) (a - b) c)) v
    go true l g = let z = l tt in record { sign = false; num = b - a; over = c; ok = ok; is = refl; of = ≈-trans (off-b true (b - a) b a c ok (omega arith)) h }
    go false l g = pick (ltb b a) (g tt) (nltb→le b a)
sum-rounded f false a true b c ok v h = go (ltb a b) (ltb→lt a b) (nltb→le a b)
  where
    go : (u : Bool) → (T u → a < b) → (T (not u) → b ≤ a) → Rounded f (cond u (round f true (b - a) c) (round f (false && ltb b a) (a - b) c)) v
    go true l g = let z = l tt in record { sign = true; num = b - a; over = c; ok = ok; is = refl; of = ≈-trans (off-b false (b - a) b a c ok (omega arith)) h }
    go false l g = let z = g tt in record { sign = false; num = a - b; over = c; ok = ok; is = refl; of = ≈-trans (off-a false (a - b) b a c ok (omega arith)) h }

pub add-rounded : (f : Format) (x y : Float) → T (finite x) → T (finite y) → Rounded f (add f x y) (value_of x ⊕ value_of y)
unfolding add
add-rounded f nan y p q = absurd p
add-rounded f (inf s) y p q = absurd p
add-rounded f (fin s m e) nan p q = absurd q
add-rounded f (fin s m e) (inf t) p q = absurd q
add-rounded f (fin s m e) (fin t n d) p q =
    sum-rounded f s (m * up e * down d) t (n * up d * down e) (down e * down d) (mul-pos (down_pos e) (down_pos d)) (value_of (fin s m e) ⊕ value_of (fin t n d)) (go s t)
  where
    go : (s t : Bool) → signed s (m * up e * down d) (down e * down d) (mul-pos (down_pos e) (down_pos d)) ⊕ signed t (n * up d * down e) (down e * down d) (mul-pos (down_pos e) (down_pos d))
        ≈ value_of (fin s m e) ⊕ value_of (fin t n d)
    go true true = record { eq = omega arith }
    go true false = record { eq = omega arith }
    go false true = record { eq = omega arith }
    go false false = record { eq = omega arith }

pub finite-neg : (x : Float) → T (finite x) → T (finite (negate x))
unfolding negate
finite-neg nan p = absurd p
finite-neg (inf s) p = absurd p
finite-neg (fin s m e) p = tt

pub value-neg : (x : Float) → value_of (negate x) ≈ neg (value_of x)
unfolding negate
value-neg nan = ≈-refl (whole 0)
value-neg (inf s) = ≈-refl (whole 0)
value-neg (fin true m e) = ≈-refl (value_of (fin false m e))
value-neg (fin false m e) = ≈-refl (value_of (fin true m e))

pub rounded-of : {f : Format} {r : Float} {a b : Fraction} → a ≈ b → Rounded f r a → Rounded f r b
rounded-of e R = record { sign = R.sign; num = R.num; over = R.over; ok = R.ok; is = R.is; of = ≈-trans R.of e }

pub sub-rounded : (f : Format) (x y : Float) → T (finite x) → T (finite y) → Rounded f (sub f x y) (value_of x ⊖ value_of y)
unfolding sub
sub-rounded f x y p q = rounded-of (⊕-cong (≈-refl (value_of x)) (value-neg y)) (add-rounded f x (negate y) p (finite-neg y q))

pub nearest_in_rounded : (f : Format) (x : Float) → T (finite x) → Rounded f (round_to_format f x) (value_of x)
unfolding round_to_format
nearest_in_rounded f nan p = absurd p
nearest_in_rounded f (inf s) p = absurd p
nearest_in_rounded f (fin true m e) p = round-rounded f true (m * up e) (down e) (down_pos e)
nearest_in_rounded f (fin false m e) p = round-rounded f false (m * up e) (down e) (down_pos e)

-- x / y, for a y that is not zero: the fraction v with v * y = x
abbrev pub nonzero : Float → Bool
nonzero nan = false
nonzero (inf s) = false
nonzero (fin s m e) = ltb 0 m

pub div-rounded : (f : Format) (x y : Float) (v : Fraction) → T (finite x) → T (nonzero y) → v ⊗ value_of y ≈ value_of x → Rounded f (div f x y) v
unfolding div
div-rounded f nan y v p q h = absurd p
div-rounded f (inf s) y v p q h = absurd p
div-rounded f (fin s m e) nan v p q h = absurd q
div-rounded f (fin s m e) (inf t) v p q h = absurd q
div-rounded f (fin s m e) (fin t zero d) v p q h = absurd q
div-rounded f (fin s m e) (fin t (suc n) d) v p q h =
    record { sign = unlike s t; num = m * up e * down d; over = suc n * up d * down e; ok = K; is = ap (λ b. cond b (cond (eqb m 0) nan (inf (unlike s t))) (round f (unlike s t) (m * up e * down d) (suc n * up d * down e))) (off n); of = go s t h }
  where
    N : 0 < suc n * up d
    N = mul-pos (zero-lt-suc n) (up_pos d)

    K : 0 < suc n * up d * down e
    K = mul-pos N (down_pos e)

    off : (n : ℕ) → eqb (suc n) 0 ≡ false
    off n = ap compare_is_eq (compare.suc-zero n)

    go : (s t : Bool) → v ⊗ value_of (fin t (suc n) d) ≈ value_of (fin s m e) → signed (unlike s t) (m * up e * down d) (suc n * up d * down e) K ≈ v
    go false false h = record { eq = omega (arith, h.eq) }
    go false true h = record { eq = omega (arith, h.eq) }
    go true false h = record { eq = omega (arith, h.eq) }
    go true true h = record { eq = omega (arith, h.eq) }

-- ---- where rounding changes nothing: q * 2 ^ j smallest values, q of prec digits
pub representable : (s t : Bool) (num d g l : ℕ) (ok : 0 < d) (lok : 0 < l) → signed s num d ok ≈ signed t g l lok → num * l ≡ g * d
representable false false num d g l ok lok h = omega (arith, h.eq)
representable false true num d g l ok lok h = omega (arith, h.eq)
representable true false num d g l ok lok h = omega (arith, h.eq)
representable true true num d g l ok lok h = omega (arith, h.eq)

pub rounded-exact : (f : Format) (r : Float) (a : Fraction) (t : Bool) (q j : ℕ) → Rounded f r a → q < 2 ^ prec f → q * 2 ^ j < 2 ^ (low f + suc (emax f)) → a ≈ signed t (q * 2 ^ j) (2 ^ low f) (pow_pos (low f))
    → T (finite r) × (value_of r ≈ a)
rounded-exact f r a t q j R Q J h =
    let e : R.num * 2 ^ low f ≡ q * 2 ^ j * R.over = representable R.sign t R.num R.over (q * 2 ^ j) (2 ^ low f) R.ok (pow_pos (low f)) (≈-trans R.of h) in
    let v = signed-value (round f R.sign R.num R.over) R.sign R.num R.over R.ok (round_exact f R.sign R.num R.over q j R.ok Q J e) in
    subst (λ x. T (finite x) × (value_of x ≈ a)) (sym R.is) (v.0, ≈-trans v.1 R.of)
