use Rattle.exact.proofs.More.{division_rounds, quotients, fused_rounded}
use Rattle.exact.proofs.division_laws.Goals as goal

pub returns : goal.returns
returns c = record { division = division_rounds; quotients = quotients; fused = fused_rounded }
