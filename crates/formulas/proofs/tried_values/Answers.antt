use Rattle.std.proofs.Common.{refl}
use Rattle.formulas.proofs.Tried.{tried}
use Rattle.formulas.proofs.tried_values.Goals as goal

pub returns : goal.returns
returns c = record { count = refl; right = tried }
