use Rattle.reducers.proofs.Skips.{lowest-bits, lowest-digits, skipped-turns}
use Rattle.reducers.proofs.skip_rule.Goals as goal

pub returns : goal.returns
returns c = record { parts = lowest-bits; floats = lowest-digits; skipped = skipped-turns }
