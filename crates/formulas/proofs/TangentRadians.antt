-- The tangent of radians at every finite word.
use Rattle.std.proofs.Common.{◌≡◌, ℕ, ◌%◌, ◌^◌, ◌<◌, ◌≤◌, T, ◌≢◌, [], ◌∷◌, ℤ, pos, negsuc, nat_abs, sym, ap, ◌∙◌, subst, arith, lit<}
use native.Mathlib.Decide.{dec_le}
use lib.Ieee.{Float, binary32, of_bits}
use lib.Ieee.Scale.{finite}
use Rattle.exact.specs.Fraction.{Fraction, ◌≈◌, ◌⊑◌, ◌⊕◌, ◌⊗◌, whole, frac, tiny, abs, Size, leq}
use Rattle.exact.specs.Value.{value_of, Held}
use Rattle.exact.specs.Multiple.{Apart}
use Rattle.exact.proofs.Order.{by-test, ≈-refl, ⊑_trans, ⊗-cong, size-⊑, within-⊑, within-≈}
use Rattle.exact.proofs.Poly.{var, con, ◌:+◌, ◌:*◌, free, same, le, hyp, num, ◌+c◌, ◌*c◌}
use Rattle.exact.proofs.Cert.{prove}
use Rattle.circle.specs.Series.{sin_series, cos_series}
use Rattle.circle.specs.Circle.{exact_sine, exact_cosine, Alike}
use Rattle.circle.proofs.Mirror.{sine-at-most-one, cosine-at-most-one}
use Rattle.reducers.specs.Reduce.{reduce}
use Rattle.reducers.specs.Exact.{field, radian_steps, mod_turn}
use Rattle.reducers.proofs.Turns.{mod_turn_lt}
use Rattle.reducers.proofs.Reading.{radian-reads}
use Rattle.reducers.proofs.Radian.{radian}
use Rattle.table.specs.Tangents.{tangent64}
use Rattle.formulas.specs.Words.{size_bits, fmla, narrowed, minus_tiny, tangent_at}
use Rattle.formulas.specs.Radians.{infinite, tan_near, tanf}
use Rattle.formulas.specs.Tangent.{Tangential, RadianTangent}
use Rattle.formulas.proofs.Ways.{tanf-zero, tanf-line, tanf-near, tanf-far}
use Rattle.formulas.proofs.Under.{units_in, in_units, size-bits, held_word, zero_word, finite-field}
use Rattle.formulas.proofs.Near.{below_twelve}
use Rattle.formulas.proofs.Radians.{sine-of, cosine-of, twelve}
use Rattle.formulas.proofs.TangentNarrowed.{Before, abs-pos, room_for, narrowed_tangent}
use Rattle.formulas.proofs.TangentNear.{Ratio, near-ratio, line-ratio, zero-ratio}
use Rattle.formulas.proofs.TangentFar.{moved, far-held, far-ahead}
use Rattle.formulas.proofs.TangentQuarter.{quarter-held, quarter-ahead}

-- ---- from the distance before narrowing
pub narrowed_tangential : (z : Float) (u : Fraction) → Held z (whole (2 ^ 121)) → Before z (exact_cosine u) (exact_sine u) → Tangential (narrowed z) u
narrowed_tangential z u H w =
    let r = narrowed_tangent z (exact_cosine u) (exact_sine u) H.fin H.size (cosine-at-most-one u) (sine-at-most-one u) w in
    record { fin = r.0; near = r.1 }

wider : (b : Fraction) → whole 0 ⊑ b → tiny 25 ⊕ b ⊗ tiny 36 ⊑ tiny 23 ⊕ b ⊗ tiny 35
unfolding same
wider b h = prove (free b ∷ []) (le (con (whole 0)) (var 0) ∷ []) (h, tt) (con (tiny 25) :+ var 0 :* con (tiny 36)) (con (tiny 23) :+ var 0 :* con (tiny 35)) (num 1 (2 ^ 36) *c hyp 0 +c num 3 (2 ^ 25)) tt

-- an answer that is not narrowed
pub plain_tangential : (z : Float) (u : Fraction) → T (finite z) → Before z (exact_cosine u) (exact_sine u) → Tangential z u
plain_tangential z u f w = record { fin = f; near = within-⊑ (wider (abs (value_of z)) (abs-pos (value_of z))) w }

-- by the series
pub before-ratio : (z : Float) (a u e : Fraction) → cos_series a ≈ exact_cosine u → sin_series a ≈ exact_sine u → Ratio z a e → e ⊑ tiny 25 → Before z (exact_cosine u) (exact_sine u)
before-ratio z a u e c s R l = within-⊑ (⊑_trans l (room_for (tiny 25) (value_of z) 36)) (within-≈ (⊗-cong (≈-refl (value_of z)) c) s R.near)

pub held-ratio : (z : Float) (a e : Fraction) → Ratio z a e → Held z (whole (2 ^ 121))
unfolding leq
held-ratio z a e R = record { fin = R.fin; size = size-⊑ (by-test {a = whole 2} {b = whole (2 ^ 121)} tt) R.size }

-- ---- by the table
module _ (y : Float) (k : ℕ) (u : Fraction) (H : Held y (frac 3 4)) (l : k < 64) (A : Alike (whole k ⊕ value_of y) u (whole 1024 ⊗ tiny 60)) where
  table-far : (k % 32 ≡ 16 → ⊥) → Tangential (narrowed (tangent64 y k)) u
  table-far o = narrowed_tangential (tangent64 y k) u (far-held y k H l o) (moved (value_of (tangent64 y k)) (whole k ⊕ value_of y) u A (far-ahead y k H l o))

  table-quarter : k % 32 ≡ 16 → Apart (value_of y) (tiny 115) → Tangential (narrowed (tangent64 y k)) u
  table-quarter o a = narrowed_tangential (tangent64 y k) u (quarter-held y k H l o a) (moved (value_of (tangent64 y k)) (whole k ⊕ value_of y) u A (quarter-ahead y k H l o a))

  pub by-table : (k % 32 ≡ 16 → Apart (value_of y) (tiny 115)) → Tangential (narrowed (tangent64 y k)) u
  by-table a = elim (dec_le (k % 32) 16) [ yes h ↦ elim (dec_le 16 (k % 32)) [ yes i ↦ (let e : k % 32 ≡ 16 = omega arith in table-quarter e (a e)) | no i ↦ table-far (λ e. low e i) ] | no h ↦ table-far (λ e. high e h) ]
    where
      low : k % 32 ≡ 16 → (16 ≤ k % 32 → ⊥) → ⊥
      low e i = i (omega arith)

      high : k % 32 ≡ 16 → (k % 32 ≤ 16 → ⊥) → ⊥
      high e i = i (omega arith)

-- the same quarter without the sign
quarter-sign : (k : ℤ) → mod_turn k % 32 ≡ 16 → nat_abs k % 32 ≡ 16
quarter-sign (pos n) h = omega arith
quarter-sign (negsuc n) h = omega arith

-- ---- the words where the ways part
tenth : in_units (units_in 123 4788187) ⊑ frac 1 10
unfolding leq units_in
tenth = by-test tt

-- ---- the errors are small enough
near-short : (tiny 50 ⊕ whole 0) ⊗ whole 1 ⊕ tiny 40 ⊑ tiny 25
unfolding leq
near-short = by-test {a = (tiny 50 ⊕ whole 0) ⊗ whole 1 ⊕ tiny 40} {b = tiny 25} tt

line-short : (tiny 60 ⊕ whole 0) ⊗ whole 1 ⊕ tiny 36 ⊑ tiny 25
unfolding leq
line-short = by-test {a = (tiny 60 ⊕ whole 0) ⊗ whole 1 ⊕ tiny 36} {b = tiny 25} tt

zero-short : (tiny 60 ⊕ whole 0) ⊗ whole 1 ⊕ tiny 60 ⊑ tiny 25
unfolding leq
zero-short = by-test {a = (tiny 60 ⊕ whole 0) ⊗ whole 1 ⊕ tiny 60} {b = tiny 25} tt

-- ---- up to 1 / 5
series-before : (z x : Float) (e : Fraction) → Size (value_of x) (frac 1 5) → Ratio z (value_of x) e → e ⊑ tiny 25 → Before z (exact_cosine (radian_steps x)) (exact_sine (radian_steps x))
series-before z x e h R l = before-ratio z (value_of x) (radian_steps x) e (cosine-of x h) (sine-of x h) R l

series_tangential : (z x : Float) (e : Fraction) → Size (value_of x) (frac 1 5) → Ratio z (value_of x) e → e ⊑ tiny 25 → Tangential (narrowed z) (radian_steps x)
series_tangential z x e h R l = narrowed_tangential z (radian_steps x) (held-ratio z (value_of x) e R) (series-before z x e h R l)

module _ (w : ℕ) (W : w < 2 ^ 32) (F : field w < 255) where
  abbrev x : Float
  x = of_bits binary32 w

  abbrev s : ℕ
  s = w % 2147483648

  S : size_bits (of_bits binary32 w) ≡ w % 2147483648
  S = size-bits w W F

  abbrev Tangent : Float → Type 0
  Tangent r = Tangential r (radian_steps (of_bits binary32 w))

  at_zero : s ≤ 0 → Tangent (tanf x)
  unfolding leq
  at_zero k =
      let H = zero_word w F k in
      let e : s ≡ 0 = omega arith in
      let R = zero-ratio x H in
      subst Tangent (sym (tanf-zero x (S ∙ e))) (plain_tangential x (radian_steps x) R.fin (series-before x x ((tiny 60 ⊕ whole 0) ⊗ whole 1 ⊕ tiny 60) (size-⊑ (by-test tt) H.size) R zero-short))

  by-line : 0 < s → s < 0x39800000 → Tangent (tanf x)
  unfolding leq
  by-line p k =
      let H = held_word w 114 8388607 below_twelve F (lit< tt) (omega arith) twelve in
      let n : size_bits x ≡ 0 → ⊥ = λ e. nonzero (sym S ∙ e) in
      subst Tangent (sym (tanf-line x n (subst (λ z. z < 0x39800000) (sym S) k))) (series_tangential (fmla x minus_tiny x) x ((tiny 60 ⊕ whole 0) ⊗ whole 1 ⊕ tiny 36) (size-⊑ (by-test tt) H.size) (line-ratio x H) line-short)
    where
      nonzero : w % 2147483648 ≡ 0 → ⊥
      nonzero e = omega arith

  by_polynomial : 0x39800000 ≤ s → s ≤ 0x3dc90fdb → Tangent (tanf x)
  unfolding leq
  by_polynomial h k =
      let H = held_word w 123 4788187 (frac 1 10) F (lit< tt) (omega arith) tenth in
      subst Tangent (sym (tanf-near x (subst (λ z. 0x39800000 ≤ z) (sym S) h) (subst (λ z. z ≤ 0x3dc90fdb) (sym S) k))) (series_tangential (tan_near x) x ((tiny 50 ⊕ whole 0) ⊗ whole 1 ⊕ tiny 40) (size-⊑ (by-test tt) H.size) (near-ratio x H) near-short)

  by_reducer : 0x3dc90fdb < s → Tangent (tanf x)
  by_reducer k =
      let l : s < infinite = omega arith in
      let N : field w ≢ 255 = λ e. clash e in
      let r = reduce x s in
      let R = radian-reads w N in
      let e = tanf-far x (subst (λ z. 0x3dc90fdb < z) (sym S) k) (subst (λ z. z < infinite) (sym S) l) ∙ ap (λ b. narrowed (tangent_at (reduce x b))) S in
      subst Tangent (sym e) (by-table r.0 (mod_turn r.1) (radian_steps x) R.0 (mod_turn_lt r.1) R.1 (λ o. (radian w N).apart (quarter-sign r.1 o)))
    where
      clash : field w ≡ 255 → ⊥
      clash e = omega arith

  tangent_word : Tangent (tanf x)
  tangent_word =
      elim (dec_le s 0x3dc90fdb) [
        | no k ↦ by_reducer (omega arith)
        | yes k ↦ elim (dec_le 0x39800000 s) [ yes j ↦ by_polynomial j k | no j ↦ elim (dec_le s 0) [ yes i ↦ at_zero i | no i ↦ by-line (omega arith) (omega arith) ] ]
      ]

pub radian_tangent : RadianTangent
radian_tangent w W n = tangent_word w W (finite-field w n)
