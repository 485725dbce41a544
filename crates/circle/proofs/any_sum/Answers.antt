use Rattle.circle.proofs.Sums.{sum-sine, sum-cosine}
use Rattle.circle.proofs.any_sum.Goals as goal

pub returns : goal.returns
returns c = (sum-sine, sum-cosine)
