-- The tangents' entries, by computation.
use Rattle.std.proofs.Common.{◌≡◌, ◌∙◌, map}
use Rattle.std.proofs.lemmas.List.{get_or-map}
use mathlib.Core.Bool.{Bool, true, false, ◌&&◌, cond}
use Prim.Native.Nat.{ℕ, ◌%◌, ◌^◌, ◌<◌}
use lib.Dec.{T, eqb, eqb→eq}
use lib.ListN.{get_or}
use lib.Count.{count_trailing_zeros}
use lib.Ieee.{Float, binary64, of_bits, of_fields, odd, nan}
use lib.Ieee.Scale.{finite}
use lib.Ieee.Fits.{and_l, and_r, eq→eqb}
use Rattle.exact.specs.Fraction.{Fraction, ◌⊗◌, neg, whole, frac, tiny, Size, Within, leq, size_test, within_test}
use Rattle.exact.specs.Value.{value_of}
use Rattle.exact.proofs.Order.{by-test, ≈-refl, ⊗-comm, size-by-test, within-by-test, within-sym, within-⊑, within-≈, within-mul-right, triangle}
use Rattle.circle.specs.Circle.{exact_sine, exact_cosine}
use Rattle.table.specs.Sines.{table_sine, table_cosine}
use Rattle.table.specs.Tangents.{tan_table, table_tangent, TangentNear}
use Rattle.table.proofs.Below.{all_below, below}
use Rattle.table.proofs.Table.{table-sine, table-cosine}

-- what the code reads from the tangents
pub tangent-of-entry : (x : Float) (k : ℕ) → k < 64 → ((d : Float) → x ≡ get_or (map (of_bits binary64) tan_table) k d) → x ≡ table_tangent k
unfolding tan_table table_tangent
tangent-of-entry x k h e = e nan ∙ get_or-map (of_bits binary64) tan_table k 0 nan h

-- at odd quarter turns, and elsewhere, against the table's own sine and cosine
far : Fraction → Bool
far x = leq x (neg (whole (2 ^ 148)))

near : Fraction → Fraction → Fraction → Bool
near x c v = size_test x (frac 41 4) && within_test (c ⊗ x) v (tiny 50)

entry : ℕ → Bool
entry k = finite (table_tangent k) && cond (eqb (k % 32) 16) (far (value_of (table_tangent k))) (near (value_of (table_tangent k)) (value_of (table_cosine k)) (value_of (table_sine k)))

entries : T (all_below entry 64)
unfolding all_below entry far near leq size_test within_test table_tangent table_sine of_bits of_fields odd count_trailing_zeros
entries = tt

-- with the exact sine and cosine for the table's
nearer : (x c v C V : Fraction) → T (near x c v) → Within c C (tiny 52) → Within v V (tiny 52) → Size x (frac 41 4) × Within (x ⊗ C) V (tiny 48)
unfolding near leq
nearer x c v C V t hc hv =
    let s = size_test x (frac 41 4) in
    let w = within_test (c ⊗ x) v (tiny 50) in
    let S = size-by-test x (frac 41 4) (and_l s w t) in
    let W = within-by-test (c ⊗ x) v (tiny 50) (and_r s w t) in
    (S, within-≈ (⊗-comm C x) (≈-refl V) (within-⊑ (by-test tt) (triangle (triangle (within-mul-right (within-sym hc) S) W) hv)))

pick : (x : Float) (c v : Fraction) (k : ℕ) (t : Bool) → (T t → k % 32 ≡ 16) → (k % 32 ≡ 16 → T t) → Within c (exact_cosine (whole k)) (tiny 52) → Within v (exact_sine (whole k)) (tiny 52)
    → T (finite x) → T (cond t (far (value_of x)) (near (value_of x) c v)) → TangentNear x k
unfolding far
pick x c v k true f g hc hv h t = record { fin = h; size = λ n. absurd (n (f tt)); near = λ n. absurd (n (f tt)); far = λ e. by-test t }
pick x c v k false f g hc hv h t =
    let n = nearer (value_of x) c v (exact_cosine (whole k)) (exact_sine (whole k)) t hc hv in
    record { fin = h; size = λ _. n.0; near = λ _. n.1; far = λ e. absurd (g e) }

pub table_tangent_lem : (k : ℕ) → k < 64 → TangentNear (table_tangent k) k
unfolding entry
table_tangent_lem k h =
    let x = table_tangent k in
    let c = value_of (table_cosine k) in
    let v = value_of (table_sine k) in
    let t = below entry 64 entries k h in
    let r = cond (eqb (k % 32) 16) (far (value_of x)) (near (value_of x) c v) in
    pick x c v k (eqb (k % 32) 16) (eqb→eq (k % 32) 16) (λ e. eq→eqb e) (table-cosine k h).near (table-sine k h).near (and_l (finite x) r t) (and_r (finite x) r t)
