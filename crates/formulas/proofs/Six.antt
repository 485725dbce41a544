-- All six functions at every word.
use Rattle.formulas.specs.Six.{Six}
use Rattle.formulas.proofs.Radians.{radian-sine, radian-cosine}
use Rattle.formulas.proofs.HalfTurns.{half-turn-sine, half-turn-cosine}
use Rattle.formulas.proofs.Special.{not_finite}
use Rattle.formulas.proofs.TangentRadians.{radian_tangent}
use Rattle.formulas.proofs.TangentHalfTurns.{half_turn_tangent}
use Rattle.formulas.proofs.TangentSpecial.{tangents_not_finite}

pub six : Six
six = record {
  sinf = radian-sine;
  cosf = radian-cosine;
  tanf = radian_tangent;
  sinpif = half-turn-sine;
  cospif = half-turn-cosine;
  tanpif = half_turn_tangent;
  sines_not_finite = not_finite;
  tangents_not_finite = tangents_not_finite;
}
