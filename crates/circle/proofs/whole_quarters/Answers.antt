use Rattle.circle.proofs.Quarters.{quarter_sines, quarter_cosines}
use Rattle.circle.proofs.whole_quarters.Goals as goal

pub returns : goal.returns
returns c = (quarter_sines, quarter_cosines)
