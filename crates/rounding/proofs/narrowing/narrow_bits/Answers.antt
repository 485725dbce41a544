use Rattle.rounding.proofs.Narrows.{with-sign, without_sign}
use Rattle.rounding.proofs.narrowing.narrow_bits.Goals as goal

pub returns-then-i-ge9223372036854775808 : goal.returns-then-i-ge9223372036854775808
returns-then-i-ge9223372036854775808 c = with-sign c.args.i c.nearest_even-rest.result c.if-i-ge9223372036854775808.true c.nearest_even-rest.ensures

pub returns-else-i-ge9223372036854775808 : goal.returns-else-i-ge9223372036854775808
returns-else-i-ge9223372036854775808 c = without_sign c.args.i c.nearest_even-rest.result c.if-i-ge9223372036854775808.false c.nearest_even-rest.ensures
