-- Narrowing an f64 that is near a fraction up to 1 in size: half a spacing more.
use Rattle.std.proofs.Common.{◌≡◌, ℕ, ◌+◌, ◌-◌, ◌*◌, ◌/◌, ◌^◌, ◌<◌, ◌≤◌, Bool, true, false, T, [], ◌∷◌, sym, refl, subst, zero-le, lt_of_lt_of_le, le-div_iff_mul-le, not-le_of_lt, arith, lit<, pow_pos, pow_mono}
use native.Mathlib.Decide.{dec_le}
use lib.Ieee.{Float, nan, inf, fin, binary32, up, down, size}
use lib.Ieee.Digits.{size-lt}
use lib.Ieee.Fits.{down_pos}
use lib.Ieee.Scale.{finite}
use Rattle.exact.specs.Fraction.{Fraction, ◌≈◌, ◌⊑◌, ◌⊕◌, ◌⊖◌, whole, frac, tiny, Size, Within, leq, size_test}
use Rattle.exact.specs.Value.{value_of, signed, Good}
use Rattle.exact.specs.Rounded.{Rounded, in_range, half_spacing}
use Rattle.exact.proofs.Order.{by-test, nonneg, zero-⊕, ⊕-assoc, ≈→⊑, ≈→⊒, ≈-refl, ≈-sym, ⊑_refl, ⊑_trans, ⊕-mono, size-⊑, size-near, size-by-test, triangle, within-≈, within-sym, within-⊑}
use Rattle.exact.proofs.Rounding.{nearest_in_rounded}
use Rattle.exact.proofs.Spacing.{rounded-spaced, rounded-best}
use Rattle.exact.proofs.Poly.{var, con, ◌:+◌, free, same, le, hyp, ◌+c◌}
use Rattle.exact.proofs.Cert.{prove}
use Rattle.formulas.specs.Words.{narrowed}
use Rattle.formulas.specs.Distance.{Close}

up-to-two : {v z e : Fraction} → Within z v e → Size v (whole 1) → e ⊑ whole 1 → Size z (whole 2)
unfolding leq
up-to-two w s l = size-⊑ (⊑_trans (⊕-mono (⊑_refl (whole 1)) l) (by-test tt)) (size-near w s)

two_in_range : T (in_range binary32 (whole 2))
unfolding size
two_in_range = tt

pub narrowed-near : (z : Float) (v e : Fraction) → Good z v e → Size v (whole 1) → e ⊑ whole 1 → Good (narrowed z) v (half_spacing binary32 (narrowed z) ⊕ e)
narrowed-near z v e g s l =
    let r = rounded-spaced binary32 (narrowed z) (value_of z) (whole 2) (nearest_in_rounded binary32 z g.fin) (up-to-two g.near s l) two_in_range in
    record { fin = r.fin; near = triangle r.near g.near }

-- ---- near 1, which is a value itself
one_size : Size (whole 1) (whole 1)
unfolding size_test
one_size = size-by-test (whole 1) (whole 1) tt

one-is : signed false (1 * 2 ^ 149) (2 ^ 149) (pow_pos 149) ≈ whole 1
one-is = record { eq = refl }

not_negative : (s : Bool) (n d : ℕ) (ok : 0 < d) (v : Fraction) → signed s n d ok ≈ v → frac 1 2 ⊑ v → s ≡ false
not_negative false n d ok v e h = refl
not_negative true n d ok v e h = absurd (clash (⊑_trans h (≈→⊒ e)))
  where
    clash : frac 1 2 ⊑ signed true n d ok → ⊥
    clash k = omega (arith, k.le)

half-left : {z e : Fraction} → Within z (whole 1) e → e ⊑ frac 1 2 → frac 1 2 ⊑ z
unfolding same
half-left {z} {e} w l = prove (free z ∷ free e ∷ []) (le (con (whole 1)) (var 0 :+ var 1) ∷ le (var 1) (con (frac 1 2)) ∷ []) (w.above, (l, tt)) (con (frac 1 2)) (var 0) (hyp 0 +c hyp 1) tt

pub narrowed-one : (z : Float) (e : Fraction) → Good z (whole 1) e → e ⊑ frac 1 2 → Good (narrowed z) (whole 1) (e ⊕ e)
unfolding leq
narrowed-one z e g l =
    let R : Rounded binary32 (narrowed z) (value_of z) = nearest_in_rounded binary32 z g.fin in
    let s : R.sign ≡ false = not_negative R.sign R.num R.over R.ok (value_of z) R.of (half-left g.near l) in
    let w : Within (signed R.sign (1 * 2 ^ 149) (2 ^ 149) (pow_pos 149)) (value_of z) e = subst (λ t. Within (signed t (1 * 2 ^ 149) (2 ^ 149) (pow_pos 149)) (value_of z) e) (sym s) (within-≈ (≈-sym one-is) (≈-refl (value_of z)) (within-sym g.near)) in
    let r = rounded-best binary32 (narrowed z) (value_of z) (whole 2) e 1 149 R (up-to-two g.near one_size (⊑_trans l (by-test tt))) two_in_range (lit< tt) w in
    record { fin = r.fin; near = triangle r.near g.near }

-- from 1 / 2 on, half a spacing is at least 2 ^ -25
digits : (n : ℕ) → 2 ^ 148 ≤ n → 149 ≤ size n
digits n h = elim (dec_le 149 (size n)) [ yes k ↦ k | no k ↦ (let l : size n ≤ 148 = omega arith in absurd (not-le_of_lt (lt_of_lt_of_le (size-lt n) (pow_mono l)) h)) ]

pub spacing_half : (r : Float) → T (finite r) → frac 1 2 ⊑ value_of r → tiny 25 ⊑ half_spacing binary32 r
spacing_half nan p h = absurd p
spacing_half (inf s) p h = absurd p
spacing_half (fin true m e) p h = absurd (clash (m * up e) (down e) (down_pos e) h.le)
  where
    clash : (n d : ℕ) → 0 < d → 1 * d + n * 2 ≤ 0 * 2 + 0 * d → ⊥
    clash n d k h = omega arith
spacing_half (fin false m e) p h =
    let n = m * up e * 2 ^ 149 / down e in
    let a : 2 ^ 148 ≤ n = (le-div_iff_mul-le (down_pos e)).1 (units (m * up e) (down e) h.le) in
    let b : 149 ≤ size n = digits n a in
    let k : 125 ≤ size n - 24 = omega arith in
    let c : 2 ^ 125 ≤ 2 ^ (size n - 24) = pow_mono k in
    record { le = last (2 ^ (size n - 24)) c }
  where
    units : (n d : ℕ) → 1 * d + 0 * 2 ≤ n * 2 + 0 * d → 2 ^ 148 * d ≤ n * 2 ^ 149
    units n d h = omega arith

    last : (q : ℕ) → 2 ^ 125 ≤ q → 1 * 2 ^ 150 + 0 * 2 ^ 25 ≤ q * 2 ^ 25 + 0 * 2 ^ 150
    last q h = omega arith

-- ---- as the distances are stated, with a very little left for the cosine of the opposite angle
-- 2 ^ -36 - 2 ^ -80
abbrev pub short : Fraction
short = tiny 36 ⊖ tiny 80

-- within half a spacing at r and that of v
abbrev pub Closer : Float → Fraction → Type 0
Closer r v = Good r v (half_spacing binary32 r ⊕ short)

short-less : short ⊑ tiny 36
unfolding leq
short-less = by-test {a = short} {b = tiny 36} tt

short-rest : short ⊕ tiny 80 ⊑ tiny 36
unfolding leq
short-rest = by-test {a = short ⊕ tiny 80} {b = tiny 36} tt

short-one : short ⊑ whole 1
unfolding leq
short-one = by-test {a = short} {b = whole 1} tt

pub closer-close : (r : Float) (v : Fraction) → Closer r v → Close r v
closer-close r v g = record { fin = g.fin; near = within-⊑ (⊕-mono (⊑_refl (half_spacing binary32 r)) short-less) g.near }

-- a fraction within 2 ^ -80
pub closer-moved : (r : Float) (v u : Fraction) → Within v u (tiny 80) → Closer r v → Close r u
closer-moved r v u w g =
    let h = half_spacing binary32 r in
    record { fin = g.fin; near = within-⊑ (⊑_trans (≈→⊑ (⊕-assoc h short (tiny 80))) (⊕-mono (⊑_refl h) short-rest)) (triangle g.near w) }

pub closer-≈ : (r : Float) (v u : Fraction) → v ≈ u → Closer r v → Closer r u
closer-≈ r v u e g = record { fin = g.fin; near = within-≈ (≈-refl (value_of r)) e g.near }

-- the answer itself, not narrowed
pub closer-own : (r : Float) (v : Fraction) → Good r v short → Closer r v
closer-own r v g = record { fin = g.fin; near = within-⊑ (⊑_trans (≈→⊒ (zero-⊕ short)) (⊕-mono (spacing_pos r) (⊑_refl short))) g.near }
  where
    spacing_pos : (r : Float) → whole 0 ⊑ half_spacing binary32 r
    spacing_pos r = nonneg zero-le

pub narrowed-closer : (z : Float) (v : Fraction) → Good z v short → Size v (whole 1) → Closer (narrowed z) v
narrowed-closer z v g s = narrowed-near z v short g s short-one

-- near 1
pub one-closer : (z : Float) (v e d : Fraction) → Good z (whole 1) e → e ⊑ frac 1 4 → Within (whole 1) v d → (e ⊕ e) ⊕ d ⊑ tiny 25 ⊕ short → Closer (narrowed z) v
unfolding leq
one-closer z v e d g l w k =
    let r = narrowed-one z e g (⊑_trans l (by-test tt)) in
    let t : tiny 25 ⊑ half_spacing binary32 (narrowed z) = spacing_half (narrowed z) r.fin (half-left r.near (⊑_trans (⊕-mono l l) (by-test tt))) in
    record { fin = r.fin; near = within-⊑ (⊑_trans k (⊕-mono t (⊑_refl short))) (triangle r.near w) }
