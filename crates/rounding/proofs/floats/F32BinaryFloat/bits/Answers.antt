use Rattle.std.proofs.Common.{sym, ap, ◌∙◌, rules}
use lib.Ieee.{binary32, of_bits}
use lib.Ieee.Bits.{of_bits-to_bits}
use Rattle.rounding.proofs.floats.F32BinaryFloat.bits.Goals as goal

pub returns-clause-back : goal.returns-clause-back
returns-clause-back c = sym (ap (of_bits binary32) (c.from.ensures ∙ c.f32_to_bits_with_nan.ensures) ∙ of_bits-to_bits binary32 c.args.self (search rules))
