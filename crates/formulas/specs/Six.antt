-- All six functions at every word. Definitions only.
use Rattle.formulas.specs.Distance.{RadianSine, RadianCosine, HalfTurnSine, HalfTurnCosine, NotFinite}
use Rattle.formulas.specs.Tangent.{RadianTangent, HalfTurnTangent, TangentsNotFinite}

-- near the exact sine, cosine and tangent of every finite float; of infinities and NaNs not a number
pub record Six : Type 0 where
  pub sinf : RadianSine
  pub cosf : RadianCosine
  pub tanf : RadianTangent
  pub sinpif : HalfTurnSine
  pub cospif : HalfTurnCosine
  pub tanpif : HalfTurnTangent
  pub sines_not_finite : NotFinite
  pub tangents_not_finite : TangentsNotFinite
