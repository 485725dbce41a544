-- Infinities and NaNs: none of the four answers a number.
use Rattle.std.proofs.Common.{◌≡◌, ℕ, ◌%◌, ◌≤◌, Bool, true, false, cond, eqb, sym, refl, subst, lit≤}
use lib.Ieee.{nan, inf, binary32, of_bits, of_fields, to_bits}
use Rattle.rounding.proofs.Fields.{sign, pattern-is}
use Rattle.reducers.specs.Exact.{field}
use Rattle.formulas.specs.Words.{size_bits}
use Rattle.formulas.specs.Radians.{infinite}
use Rattle.formulas.specs.Distance.{NotFinite}
use Rattle.formulas.proofs.Ways.{sinf-nan, cosf-nan, sinpif-nan, cospif-nan}

special-fields : (s : Bool) (t : ℕ) → infinite ≤ size_bits (of_fields binary32 s 255 t)
unfolding of_fields to_bits
special-fields s t = go s (eqb t 0)
  where
    go : (s b : Bool) → infinite ≤ size_bits (cond b (inf s) nan)
    go true true = lit≤ tt
    go false true = lit≤ tt
    go s false = lit≤ tt

pub special-word : (w : ℕ) → field w ≡ 255 → infinite ≤ size_bits (of_bits binary32 w)
special-word w e = subst (λ x. infinite ≤ size_bits x) (sym (pattern-is binary32 w (sign binary32 w) 255 (w % 8388608) refl e refl)) (special-fields (sign binary32 w) (w % 8388608))

pub not_finite : NotFinite
not_finite = (
  λ w h e. sinf-nan (of_bits binary32 w) (special-word w e),
  λ w h e. cosf-nan (size_bits (of_bits binary32 w)) (special-word w e),
  λ w h e. sinpif-nan (of_bits binary32 w) (special-word w e),
  λ w h e. cospif-nan (size_bits (of_bits binary32 w)) (special-word w e),
)
