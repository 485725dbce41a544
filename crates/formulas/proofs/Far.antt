-- Radians by the table: the reducer and the table text together, before narrowing.
use Rattle.std.proofs.Common.{ℕ, ◌%◌, ◌≢◌, ℤ}
use lib.Ieee.{Float, binary32, of_bits}
use Rattle.exact.specs.Fraction.{Fraction, ◌⊑◌, ◌⊕◌, ◌⊗◌, whole, frac, tiny, leq}
use Rattle.exact.specs.Value.{value_of, Good, Held}
use Rattle.exact.proofs.Order.{by-test, triangle, within-⊑}
use Rattle.circle.specs.Circle.{step, exact_sine, exact_cosine, Alike}
use Rattle.circle.proofs.Mirror.{alike-sine, alike-cosine}
use Rattle.forms.specs.Floats.{promise64}
use Rattle.forms.specs.Meaning.{good-near}
use Rattle.reducers.specs.Reduce.{reduce}
use Rattle.reducers.specs.Exact.{field, radian_steps, mod_turn}
use Rattle.reducers.proofs.Turns.{mod_turn_lt}
use Rattle.reducers.proofs.Reading.{radian-reads}
use Rattle.table.specs.Sines.{sine64, cosine64}
use Rattle.table.proofs.Text.{sine-near, cosine-near}
use Rattle.formulas.specs.Words.{sine_at, cosine_at}
use Rattle.formulas.proofs.Narrowed.{short}

-- the table's error and the reducer's
abbrev by_table : Fraction
by_table = (whole 11 ⊗ tiny 47 ⊕ tiny 44) ⊕ ((whole 1024 ⊗ tiny 60) ⊗ step ⊕ tiny 70)

table-short : by_table ⊑ short
unfolding step leq
table-short = by-test {a = by_table} {b = short} tt

module _ (y : Float) (k : ℤ) (u : Fraction) (H : Held y (frac 3 4)) (A : Alike (whole (mod_turn k) ⊕ value_of y) u (whole 1024 ⊗ tiny 60)) where
  sine-table : Good (sine64 y (mod_turn k)) (exact_sine u) short
  sine-table =
      let v = exact_sine (whole (mod_turn k) ⊕ value_of y) in
      let g = good-near (sine64 y (mod_turn k)) v (whole 11 ⊗ tiny 47 ⊕ tiny 44) (sine-near promise64 y H (mod_turn k) (mod_turn_lt k)) in
      record { fin = g.fin; near = within-⊑ table-short (triangle g.near (alike-sine (whole (mod_turn k) ⊕ value_of y) u (whole 1024 ⊗ tiny 60) A)) }

  cosine-table : Good (cosine64 y (mod_turn k)) (exact_cosine u) short
  cosine-table =
      let v = exact_cosine (whole (mod_turn k) ⊕ value_of y) in
      let g = good-near (cosine64 y (mod_turn k)) v (whole 11 ⊗ tiny 47 ⊕ tiny 44) (cosine-near promise64 y H (mod_turn k) (mod_turn_lt k)) in
      record { fin = g.fin; near = within-⊑ table-short (triangle g.near (alike-cosine (whole (mod_turn k) ⊕ value_of y) u (whole 1024 ⊗ tiny 60) A)) }

pub sine-far : (w : ℕ) → field w ≢ 255 → Good (sine_at (reduce (of_bits binary32 w) (w % 2147483648))) (exact_sine (radian_steps (of_bits binary32 w))) short
sine-far w h =
    let r = reduce (of_bits binary32 w) (w % 2147483648) in
    let R = radian-reads w h in
    sine-table r.0 r.1 (radian_steps (of_bits binary32 w)) R.0 R.1

pub cosine-far : (w : ℕ) → field w ≢ 255 → Good (cosine_at (reduce (of_bits binary32 w) (w % 2147483648))) (exact_cosine (radian_steps (of_bits binary32 w))) short
cosine-far w h =
    let r = reduce (of_bits binary32 w) (w % 2147483648) in
    let R = radian-reads w h in
    cosine-table r.0 r.1 (radian_steps (of_bits binary32 w)) R.0 R.1
