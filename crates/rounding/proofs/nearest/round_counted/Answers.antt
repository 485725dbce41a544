use Rattle.std.proofs.Common.{rules}
use Rattle.rounding.proofs.Counted.{sum-is-number, counted}
use Rattle.rounding.proofs.nearest.round_counted.Goals as goal

pub float_to_bits-bits : goal.float_to_bits-bits
float_to_bits-bits c = sum-is-number c.args.x c.if-rest.true c.if-rest-2.true

pub returns-then-bits-ne4843621399236968448 : goal.returns-then-bits-ne4843621399236968448
returns-then-bits-ne4843621399236968448 c =
    let h = counted c.args.x (search rules) c.if-rest.true c.if-rest-2.true c.if-bits-ge4842495499330125824.true c.if-bits-lt4844747299143811072.true c.if-bits-ne4843621399236968448.true in
    record { whole = h.whole; count = h.count }
