use Rattle.formulas.proofs.TangentRadians.{radian_tangent}
use Rattle.formulas.proofs.TangentHalfTurns.{half_turn_tangent}
use Rattle.formulas.proofs.TangentSpecial.{tangents_not_finite}
use Rattle.formulas.proofs.tangent_distances.Goals as goal

pub returns : goal.returns
returns c = record { radian = radian_tangent; half_turn = half_turn_tangent; not_finite = tangents_not_finite }
