use Rattle.formulas.proofs.Radians.{radian-sine, radian-cosine}
use Rattle.formulas.proofs.HalfTurns.{half-turn-sine, half-turn-cosine}
use Rattle.formulas.proofs.Special.{not_finite}
use Rattle.formulas.proofs.sine_distances.Goals as goal

pub returns : goal.returns
returns c = record { radian_sine = radian-sine; radian_cosine = radian-cosine; half_turn_sine = half-turn-sine; half_turn_cosine = half-turn-cosine; not_finite = not_finite }
