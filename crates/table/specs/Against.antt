-- The tables and the polynomials against the exact sines and the series, as statements.
use Rattle.std.specs.Prelude.{ℕ, ◌<◌}
use Rattle.exact.specs.Fraction.{Fraction, ◌⊕◌, ◌⊗◌, ◌⊖◌, whole, frac, tiny, Size, Within}
use Rattle.exact.specs.Value.{value_of, Good, Held}
use Rattle.circle.specs.Series.{sin_series, cos_series}
use Rattle.circle.specs.Circle.{step, exact_sine, exact_cosine}
use Rattle.table.specs.Sines.{table_sine, table_cosine, sin0, sin1, sin2, sin3, cos0, cos1, cos2}
use Rattle.table.specs.Tangents.{table_tangent, TangentNear, tan0, tan1, tan2, tan3}

-- what sin_of_y stands for
abbrev pub sin_poly : Fraction → Fraction
sin_poly y = y ⊗ ((y ⊗ y) ⊗ ((y ⊗ y) ⊗ ((y ⊗ y) ⊗ value_of sin3 ⊕ value_of sin2) ⊕ value_of sin1) ⊕ value_of sin0)

-- what cosm1_of_y stands for
abbrev pub cosm1_poly : Fraction → Fraction
cosm1_poly y = (y ⊗ y) ⊗ ((y ⊗ y) ⊗ ((y ⊗ y) ⊗ value_of cos2 ⊕ value_of cos1) ⊕ value_of cos0)

-- what tan_of_y stands for
abbrev pub tan_poly : Fraction → Fraction
tan_poly y = ((y ⊗ y) ⊗ ((y ⊗ y) ⊗ ((y ⊗ y) ⊗ value_of tan3 ⊕ value_of tan2) ⊕ value_of tan1) ⊕ value_of tan0) ⊗ y

-- a little less than 2 ^ -44
abbrev pub gap : Fraction
gap = frac 4 5 ⊗ tiny 44

-- up to 3 / 4 of a step the polynomial is within 2 ^ -49 of the sine
abbrev pub SineAgainst : Type 0
SineAgainst = (y : Fraction) → Size y (frac 3 4) → Within (sin_poly y) (sin_series (y ⊗ step)) (tiny 49)

-- and the other within 4 / 5 of 2 ^ -44 of the cosine less 1
abbrev pub CosineAgainst : Type 0
CosineAgainst = (y : Fraction) → Size y (frac 3 4) → Within (cosm1_poly y) (cos_series (y ⊗ step) ⊖ whole 1) gap

-- up to 3 / 4 of a step the third times the cosine is within 2 ^ -40 of the sine
abbrev pub TangentAgainst : Type 0
TangentAgainst = (y : Fraction) → Size y (frac 3 4) → Within (tan_poly y ⊗ cos_series (y ⊗ step)) (sin_series (y ⊗ step)) (tiny 40)

-- and within 2 ^ -47 up to 1 / 2
abbrev pub TangentNearer : Type 0
TangentNearer = (y : Fraction) → Size y (frac 1 2) → Within (tan_poly y ⊗ cos_series (y ⊗ step)) (sin_series (y ⊗ step)) (tiny 47)

-- every entry of the table is at most 1 in size, and within 2 ^ -52 of the exact sine of its step
abbrev pub TableSines : Type 0
TableSines = (k : ℕ) → k < 64 → Held (table_sine k) (whole 1) × Good (table_sine k) (exact_sine (whole k)) (tiny 52)

-- and a quarter turn on, of the exact cosine
abbrev pub TableCosines : Type 0
TableCosines = (k : ℕ) → k < 64 → Held (table_cosine k) (whole 1) × Good (table_cosine k) (exact_cosine (whole k)) (tiny 52)

-- every entry of the tangents' table stands for the tangent of its step
abbrev pub TableTangents : Type 0
TableTangents = (k : ℕ) → k < 64 → TangentNear (table_tangent k) k
