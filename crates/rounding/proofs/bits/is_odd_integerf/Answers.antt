use Rattle.std.proofs.Common.{◌≡◌, eqb, ap, ◌∙◌, rules}
use Rattle.rounding.specs.Bits.{odd_bits}
use Rattle.rounding.proofs.Wholes.{odd-means}
use Rattle.rounding.proofs.bits.is_odd_integerf.Goals as goal

pub returns : goal.returns
returns c =
    let e : eqb c.last_place.result 150 ≡ odd_bits c.args.x = ap (λ z. eqb z 150) c.last_place.ensures in
    record { is = e; means = e ∙ odd-means c.args.x (search rules) }
