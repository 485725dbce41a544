use Rattle.std.proofs.Common.{◌≡◌, leb, ap, ◌∙◌, rules}
use Rattle.rounding.specs.Bits.{whole_bits}
use Rattle.rounding.proofs.Wholes.{whole-means}
use Rattle.rounding.proofs.bits.is_integerf.Goals as goal

pub returns : goal.returns
returns c =
    let e : leb 150 c.last_place.result ≡ whole_bits c.args.x = ap (leb 150) c.last_place.ensures in
    record { is = e; means = λ p q. e ∙ whole-means c.args.x (search rules) p q }
