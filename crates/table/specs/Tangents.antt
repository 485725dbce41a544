-- The table of tangents, and the tangent of k + y steps. Definitions only.
use Rattle.std.specs.Prelude.{ℕ, ◌%◌, ◌^◌, ◌≡◌, List, [], ◌∷◌, get_or, T, Float}
use Rattle.std.specs.Float.{binary64}
use Rattle.std.specs.Float.Ieee.{of_bits, add, mul, div, neg as negate}
use Rattle.std.specs.Float.Ieee.Scale.{finite}
use Rattle.exact.specs.Fraction.{◌⊑◌, ◌⊗◌, neg, whole, frac, tiny, Size, Within}
use Rattle.exact.specs.Value.{value_of}
use Rattle.circle.specs.Circle.{exact_sine, exact_cosine}
use Rattle.forms.specs.Polyeval.{polyeval4}

-- the tangents of 0 to 63 steps, as bits
unfoldable pub tan_table : List ℕ
tan_table =
    0x0000000000000000 ∷
    0x3fb936bb8c5b2da2 ∷
    0x3fc975f5e0553158 ∷
    0x3fd36a08355c63dc ∷
    0x3fda827999fcef32 ∷
    0x3fe11ab7190834ec ∷
    0x3fe561b82ab7f990 ∷
    0x3fea43002ae42850 ∷
    0x3ff0000000000000 ∷
    0x3ff37efd8d87607e ∷
    0x3ff7f218e25a7461 ∷
    0x3ffdef13b73c1406 ∷
    0x4003504f333f9de6 ∷
    0x400a5f59e90600dd ∷
    0x40141bfee2424771 ∷
    0x40244e6c595afdcc ∷
    0xc950457bf6be49c7 ∷
    0xc0244e6c595afdcc ∷
    0xc0141bfee2424771 ∷
    0xc00a5f59e90600dd ∷
    0xc003504f333f9de6 ∷
    0xbffdef13b73c1406 ∷
    0xbff7f218e25a7461 ∷
    0xbff37efd8d87607e ∷
    0xbff0000000000000 ∷
    0xbfea43002ae42850 ∷
    0xbfe561b82ab7f990 ∷
    0xbfe11ab7190834ec ∷
    0xbfda827999fcef32 ∷
    0xbfd36a08355c63dc ∷
    0xbfc975f5e0553158 ∷
    0xbfb936bb8c5b2da2 ∷
    0x369f77598338bfdf ∷
    0x3fb936bb8c5b2da2 ∷
    0x3fc975f5e0553158 ∷
    0x3fd36a08355c63dc ∷
    0x3fda827999fcef32 ∷
    0x3fe11ab7190834ec ∷
    0x3fe561b82ab7f990 ∷
    0x3fea43002ae42850 ∷
    0x3ff0000000000000 ∷
    0x3ff37efd8d87607e ∷
    0x3ff7f218e25a7461 ∷
    0x3ffdef13b73c1406 ∷
    0x4003504f333f9de6 ∷
    0x400a5f59e90600dd ∷
    0x40141bfee2424771 ∷
    0x40244e6c595afdcc ∷
    0xc935b1fa9e530d0a ∷
    0xc0244e6c595afdcc ∷
    0xc0141bfee2424771 ∷
    0xc00a5f59e90600dd ∷
    0xc003504f333f9de6 ∷
    0xbffdef13b73c1406 ∷
    0xbff7f218e25a7461 ∷
    0xbff37efd8d87607e ∷
    0xbff0000000000000 ∷
    0xbfea43002ae42850 ∷
    0xbfe561b82ab7f990 ∷
    0xbfe11ab7190834ec ∷
    0xbfda827999fcef32 ∷
    0xbfd36a08355c63dc ∷
    0xbfc975f5e0553158 ∷
    0xbfb936bb8c5b2da2 ∷ []

-- the table's tangent of k steps
unfoldable pub table_tangent : ℕ → Float
unfolding tan_table
table_tangent k = of_bits binary64 (get_or tan_table k 0)

-- x for the tangent of k steps: at most 41 / 4 in size, and x times the cosine within 2 ^ -48 of the sine; at odd quarter turns, where there is no tangent, -2 ^ 148 or less
pub record TangentNear (x : Float) (k : ℕ) : Type 0 where
  pub fin : T (finite x)
  pub size : (k % 32 ≡ 16 → ⊥) → Size (value_of x) (frac 41 4)
  pub near : (k % 32 ≡ 16 → ⊥) → Within (value_of x ⊗ exact_cosine (whole k)) (exact_sine (whole k)) (tiny 48)
  pub far : k % 32 ≡ 16 → value_of x ⊑ neg (whole (2 ^ 148))

-- the coefficients of tan (y π / 32) / y in y², up to y⁶ on [0, 0.5]
abbrev pub tan0 : Float
tan0 = of_bits binary64 0x3fb921fb54442cef

abbrev pub tan1 : Float
tan1 = of_bits binary64 0x3f34abbce63a363e

abbrev pub tan2 : Float
tan2 = of_bits binary64 0x3eb466baced705e8

abbrev pub tan3 : Float
tan3 = of_bits binary64 0x3e346a33cde88184

-- a b + c, each rounded once
abbrev fmla : Float → Float → Float → Float
fmla a b c = add binary64 (mul binary64 a b) c

-- tan (y π / 32)
abbrev pub tan_of_y : Float → Float
tan_of_y y = mul binary64 (polyeval4 fmla (mul binary64 y y) tan0 tan1 tan2 tan3) y

-- the tangent of the sum: (tan_y + tan_k) / (1 - tan_y tan_k)
abbrev pub tangent_of : Float → Float → Float
tangent_of tan-y tan-k = div binary64 (add binary64 tan-y tan-k) (fmla tan-y (negate tan-k) (of_bits binary64 0x3ff0000000000000))

-- the tangent of k + y steps
abbrev pub tangent64 : Float → ℕ → Float
tangent64 y k = tangent_of (tan_of_y y) (table_tangent k)
