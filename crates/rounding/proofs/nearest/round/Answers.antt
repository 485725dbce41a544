use Rattle.rounding.proofs.Patterns.{pattern_lt}
use Rattle.rounding.proofs.Rounds.{round_joined}
use Rattle.rounding.proofs.nearest.round.Goals as goal

pub round_bits-requires : goal.round_bits-requires
round_bits-requires g c = pattern_lt g.F.BinaryFloat.format (g.F.BinaryFloat.float c.args.x) c.bits.result c.bits.ensures.is c.bits.ensures.back

pub returns : goal.returns
returns g c =
    let F = g.F.BinaryFloat in
    round_joined F.format (F.float c.args.x) (F.float c.of_bits.result) c.bits.result c.round_bits.result c.bits.ensures.is c.bits.ensures.back c.round_bits.ensures c.of_bits.ensures
