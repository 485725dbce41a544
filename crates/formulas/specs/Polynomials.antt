-- The polynomials without rounding, against the series. Definitions only.
use Rattle.exact.specs.Fraction.{Fraction, ◌⊕◌, ◌⊗◌, whole, frac, tiny, Size, Within}
use Rattle.exact.specs.Value.{value_of}
use Rattle.circle.specs.Series.{sin_series, cos_series}
use Rattle.circle.specs.Circle.{step}
use Rattle.formulas.specs.Radians.{sin_near_in, cos_near_in, tan_near_in}
use Rattle.formulas.specs.HalfTurns.{sinpi_near_in, cospi_near_in, sinpi_y_in, cospi_y_in}

-- a b + c without rounding
abbrev pub exactly : Fraction → Fraction → Fraction → Fraction
exactly a b c = a ⊗ b ⊕ c

-- the angle of x half turns
abbrev turned : Fraction → Fraction
turned x = x ⊗ (whole 32 ⊗ step)

-- radians, up to 1/5, which is more than π/16: the sine's polynomial is within 2 ^ -44
abbrev pub SineSeries : Type 0
SineSeries = (x : Fraction) → Size x (frac 1 5) → Within (sin_near_in exactly ◌⊗◌ value_of x) (sin_series x) (tiny 44)

-- and the cosine's within 2 ^ -41
abbrev pub CosineSeries : Type 0
CosineSeries = (x : Fraction) → Size x (frac 1 5) → Within (cos_near_in exactly ◌⊗◌ value_of x) (cos_series x) (tiny 41)

-- up to 1/10, which is more than π/32, the tangent's times the cosine is within 2 ^ -40 of the sine
abbrev pub TangentSeries : Type 0
TangentSeries = (x : Fraction) → Size x (frac 1 10) → Within (tan_near_in exactly ◌⊗◌ value_of x ⊗ cos_series x) (sin_series x) (tiny 40)

-- half turns, up to 1/16: the sine's polynomial is within 2 ^ -44
abbrev pub HalfSineSeries : Type 0
HalfSineSeries = (x : Fraction) → Size x (frac 1 16) → Within (sinpi_near_in exactly ◌⊗◌ value_of x) (sin_series (turned x)) (tiny 44)

-- and the cosine's within 2 ^ -41
abbrev pub HalfCosineSeries : Type 0
HalfCosineSeries = (x : Fraction) → Size x (frac 1 16) → Within (cospi_near_in exactly ◌⊗◌ value_of x) (cos_series (turned x)) (tiny 41)

-- up to 1/4, sinpif_eval's polynomial is within 2 ^ -41
abbrev pub QuarterSineSeries : Type 0
QuarterSineSeries = (x : Fraction) → Size x (frac 1 4) → Within (sinpi_y_in exactly ◌⊗◌ value_of x) (sin_series (turned x)) (tiny 41)

-- and cospif_eval's within 2 ^ -37
abbrev pub QuarterCosineSeries : Type 0
QuarterCosineSeries = (x : Fraction) → Size x (frac 1 4) → Within (cospi_y_in exactly ◌⊗◌ value_of x) (cos_series (turned x)) (tiny 37)
