-- Rounding keeps multiples of a power of two, and keeps a number at least as far from zero as a power of two.
use Rattle.std.proofs.Common.{◌≡◌, ℕ, suc, ◌+◌, ◌-◌, ◌*◌, ◌/◌, ◌^◌, ◌<◌, ◌≤◌, Bool, true, false, cond, not, T, ltb, leb, sym, ap, ◌∙◌, subst, inl, inr, le_trans, le_of_eq, le_of_lt, mul-le-mul_right, zero-lt-suc, mul_assoc, mul-pos, one-mul, mul-one, div-mul-le_self, arith, ltb→lt, leb→le, pow_pos, pow_mono}
use lib.Dec.{nleb→lt}
use lib.Ieee.{Float, Format, inf, prec, emax, low, size, round, units, odd}
use lib.Ieee.Digits.{size_reaches}
use lib.Ieee.Fits.{two, round_is, two-le_pos}
use lib.Ieee.Exact.{HasValue, units_val}
use lib.Ieee.Nearest.{closest, closest_mono}
use lib.Ieee.Order.{drop, kept}
use lib.Ieee.Scale.{finite}
use Rattle.exact.specs.Fraction.{Fraction, ◌⊑◌, ◌≈◌}
use Rattle.exact.specs.Value.{value_of, signed}
use Rattle.exact.specs.Multiple.{pw, Multiple, Apart}
use Rattle.exact.specs.Rounded.{Rounded}
use Rattle.exact.proofs.Order.{⊑_trans, ≈→⊑, ≈-sym, ≈-refl, ≈-trans, ⊗-cong, neg_cong}
use Rattle.exact.proofs.Closest.{grid_of, split-pow, closest-one, closest-whole}
use Rattle.exact.proofs.Rounding.{signed-value, representable}
use Rattle.exact.proofs.Multiple.{signed_of, times, multiple-≈}

-- ---- about natural numbers
pub record Kept (p n d j : ℕ) : Type 0 where
  pub g : ℕ
  pub is : grid_of p n d ≡ g * 2 ^ j

regroup : (q a d k j : ℕ) → a * k ≡ j → q * j * d ≡ (q * a) * (d * k)
regroup q a d k j e = rw (← e) (omega arith)

keeps : (p n d j q : ℕ) → 0 < d → n ≡ q * 2 ^ j * d → Kept p n d j
keeps p n d j q D e = go (leb (drop p n d) j) (leb→le (drop p n d) j) (nleb→lt (drop p n d) j)
  where
    go : (t : Bool) → (T t → drop p n d ≤ j) → (T (not t) → j < drop p n d) → Kept p n d j
    go true f g =
        let k = drop p n d in
        let s = split-pow j k (f tt) in
        let c : closest n (d * 2 ^ k) ≡ q * 2 ^ (j - k) = ap (λ z. closest z (d * 2 ^ k)) (e ∙ regroup q (2 ^ (j - k)) d (2 ^ k) (2 ^ j) s) ∙ closest-whole (q * 2 ^ (j - k)) (d * 2 ^ k) (mul-pos D (pow_pos k)) in
        record { g = q; is = ap (λ z. z * 2 ^ k) c ∙ mul_assoc q (2 ^ (j - k)) (2 ^ k) ∙ ap (λ z. q * z) s }
    go false f g =
        let k = drop p n d in
        let s = split-pow k j (le_of_lt (g tt)) in
        record { g = closest n (d * 2 ^ k) * 2 ^ (k - j); is = ap (λ z. closest n (d * 2 ^ k) * z) (sym s) ∙ sym (mul_assoc (closest n (d * 2 ^ k)) (2 ^ (k - j)) (2 ^ j)) }

closest-ge : (n q u : ℕ) → 0 < u → q * u ≤ n → q ≤ closest n u
closest-ge n q u U h = le_trans (le_of_eq (sym (closest-one q))) (closest_mono q 1 n u (zero-lt-suc 0) U (le_trans h (le_of_eq (sym (mul-one n)))))

reaches : (p n d j : ℕ) → 0 < p → 0 < d → 2 ^ j * d ≤ n → 2 ^ j ≤ grid_of p n d
reaches p n d j P D h = go (leb (drop p n d) j) (leb→le (drop p n d) j) (nleb→lt (drop p n d) j)
  where
    go : (t : Bool) → (T t → drop p n d ≤ j) → (T (not t) → j < drop p n d) → 2 ^ j ≤ grid_of p n d
    go true f g =
        let k = drop p n d in
        let s = split-pow j k (f tt) in
        let c : 2 ^ (j - k) ≤ closest n (d * 2 ^ k) = closest-ge n (2 ^ (j - k)) (d * 2 ^ k) (mul-pos D (pow_pos k)) (le_trans (le_of_eq (turn (2 ^ (j - k)) d (2 ^ k) (2 ^ j) s)) h) in
        le_trans (le_of_eq (sym s)) (mul-le-mul_right (2 ^ k) c)
      where
        turn : (a d k j : ℕ) → a * k ≡ j → a * (d * k) ≡ j * d
        turn a d k j e = rw (← e) (omega arith)
    go false f g =
        let k = drop p n d in
        let l = g tt in
        let z : k < size (n / d) = omega arith in
        let r : 2 ^ k ≤ n / d = size_reaches (n / d) k z in
        let b : 1 * (d * 2 ^ k) ≤ n = le_trans (le_of_eq (turn d (2 ^ k))) (le_trans (mul-le-mul_right d r) (div-mul-le_self n d)) in
        let c : 1 ≤ closest n (d * 2 ^ k) = closest-ge n 1 (d * 2 ^ k) (mul-pos D (pow_pos k)) b in
        le_trans (pow_mono (le_of_lt l)) (le_trans (le_of_eq (sym (one-mul (2 ^ k)))) (mul-le-mul_right (2 ^ k) c))
      where
        turn : (d k : ℕ) → 1 * (d * k) ≡ k * d
        turn d k = omega arith

-- ---- a finite result is what the grid says
under : (f : Format) (s : Bool) (q k : ℕ) → T (finite (units f s q k)) → q * 2 ^ k < 2 ^ (low f + suc (emax f))
unfolding units
under f s q k = go (ltb (q * 2 ^ k) (2 ^ (low f + suc (emax f)))) (ltb→lt (q * 2 ^ k) (2 ^ (low f + suc (emax f))))
  where
    go : (b : Bool) → (T b → q * 2 ^ k < 2 ^ (low f + suc (emax f))) → T (finite (cond b (odd (suc (prec f)) s q k (low f)) (inf s))) → q * 2 ^ k < 2 ^ (low f + suc (emax f))
    go true h t = h tt
    go false h t = absurd t

round-grid : (f : Format) (s : Bool) (num d : ℕ) → T (finite (round f s num d)) → HasValue (round f s num d) s (grid_of (prec f) (num * 2 ^ low f) d) (2 ^ low f)
round-grid f s num d t =
    let q = kept (prec f) (num * 2 ^ low f) d in
    let k = drop (prec f) (num * 2 ^ low f) d in
    subst (λ (z : Float). HasValue z s (grid_of (prec f) (num * 2 ^ low f) d) (2 ^ low f)) (sym (round_is f s num d)) (units_val f s q k (under f s q k (subst (λ z. T (finite z)) (round_is f s num d) t)))

-- ---- over fractions
pub signed-grid : (s : Bool) (m u d : ℕ) (ok : 0 < d) → Multiple (signed s (m * u) d ok) (record { plus = u; minus = 0; den = d; ok = ok })
signed-grid false m u d ok = record { p = m; m = 0; is = record { eq = omega arith } }
signed-grid true m u d ok = record { p = 0; m = m; is = record { eq = omega arith } }

pub rounded-keeps : (f : Format) (r : Float) (a : Fraction) (j : ℕ) → Rounded f r a → T (finite r) → Multiple a (pw j (low f)) → Multiple (value_of r) (pw j (low f))
rounded-keeps f r a j R t M =
    let g = signed_of M.p M.m in
    let v : a ≈ signed g.sign (g.size * 2 ^ j) (2 ^ low f) (pow_pos (low f)) = ≈-trans M.is (≈-trans (⊗-cong g.of (≈-refl (pw j (low f)))) (times g.sign g.size (2 ^ j) (2 ^ low f) (pow_pos (low f)))) in
    let e : R.num * 2 ^ low f ≡ g.size * 2 ^ j * R.over = representable R.sign g.sign R.num R.over (g.size * 2 ^ j) (2 ^ low f) R.ok (pow_pos (low f)) (≈-trans R.of v) in
    let k = keeps (prec f) (R.num * 2 ^ low f) R.over j g.size R.ok e in
    let w = signed-value (round f R.sign R.num R.over) R.sign (grid_of (prec f) (R.num * 2 ^ low f) R.over) (2 ^ low f) (pow_pos (low f)) (round-grid f R.sign R.num R.over (subst (λ z. T (finite z)) R.is t)) in
    subst (λ z. Multiple (value_of z) (pw j (low f))) (sym R.is)
    (multiple-≈ (≈-sym w.1) (subst (λ n. Multiple (signed R.sign n (2 ^ low f) (pow_pos (low f))) (pw j (low f))) (sym k.is) (signed-grid R.sign k.g (2 ^ j) (2 ^ low f) (pow_pos (low f)))))

pub apart-≈ : {a b c : Fraction} → a ≈ b → Apart a c → Apart b c
apart-≈ e (inl h) = inl (⊑_trans h (≈→⊑ e))
apart-≈ e (inr h) = inr (⊑_trans h (≈→⊑ (neg_cong e)))

pub apart-⊑ : {a c d : Fraction} → d ⊑ c → Apart a c → Apart a d
apart-⊑ e (inl h) = inl (⊑_trans e h)
apart-⊑ e (inr h) = inr (⊑_trans e h)

at_least : (s : Bool) (num d g l : ℕ) (ok : 0 < d) (lok : 0 < l) → Apart (signed s num d ok) (record { plus = g; minus = 0; den = l; ok = lok }) → g * d ≤ num * l
at_least false num d g l ok lok (inl h) = omega (arith, h.le)
at_least false num d g l ok lok (inr h) = omega (arith, h.le)
at_least true num d g l ok lok (inl h) = omega (arith, h.le)
at_least true num d g l ok lok (inr h) = omega (arith, h.le)

far : (s : Bool) (n g l : ℕ) (lok : 0 < l) → g * l ≤ n * l → Apart (signed s n l lok) (record { plus = g; minus = 0; den = l; ok = lok })
far false n g l lok h = inl (record { le = omega arith })
far true n g l lok h = inr (record { le = omega arith })

pub rounded-apart : (f : Format) (r : Float) (a : Fraction) (j : ℕ) → Rounded f r a → T (finite r) → Apart a (pw j (low f)) → Apart (value_of r) (pw j (low f))
rounded-apart f r a j R t A =
    let n = R.num * 2 ^ low f in
    let b = at_least R.sign R.num R.over (2 ^ j) (2 ^ low f) R.ok (pow_pos (low f)) (apart-≈ (≈-sym R.of) A) in
    let g = reaches (prec f) n R.over j (two-le_pos (prec f) (two f)) R.ok b in
    let w = signed-value (round f R.sign R.num R.over) R.sign (grid_of (prec f) n R.over) (2 ^ low f) (pow_pos (low f)) (round-grid f R.sign R.num R.over (subst (λ z. T (finite z)) R.is t)) in
    subst (λ z. Apart (value_of z) (pw j (low f))) (sym R.is) (apart-≈ (≈-sym w.1) (far R.sign (grid_of (prec f) n R.over) (2 ^ j) (2 ^ low f) (pow_pos (low f)) (mul-le-mul_right (2 ^ low f) g)))
