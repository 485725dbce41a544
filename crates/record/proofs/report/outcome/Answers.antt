use Rattle.record.proofs.Outcomes.{outcome-means}
use Rattle.record.proofs.report.outcome.Goals as goal

pub returns-then-bytes-gt-LONGEST-clause-means : goal.returns-then-bytes-gt-LONGEST-clause-means
returns-then-bytes-gt-LONGEST-clause-means c = outcome-means 96 c.args.bytes.now (λ i. (c.type_inv.bytes i).fits)

pub returns-clause-means : goal.returns-clause-means
returns-clause-means c = outcome-means 96 c.args.bytes.now (λ i. (c.type_inv.bytes i).fits)
