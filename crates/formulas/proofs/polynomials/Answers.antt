use Rattle.formulas.proofs.Near.{sine-series, cosine-series, half-sine-series, half-cosine-series, quarter-sine-series, quarter-cosine-series}
use Rattle.formulas.proofs.TangentNear.{tangent_series}
use Rattle.formulas.proofs.polynomials.Goals as goal

pub returns : goal.returns
returns c = record {
  sine = sine-series;
  cosine = cosine-series;
  tangent = tangent_series;
  half_sine = half-sine-series;
  half_cosine = half-cosine-series;
  quarter_sine = quarter-sine-series;
  quarter_cosine = quarter-cosine-series;
}
