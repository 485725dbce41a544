use native.Mathlib.Omega.{arith}
use Rattle.std.proofs.Common.{◌%◌}
use Rattle.table.specs.Tangents.{tan_table}
use Rattle.table.proofs.Tangents.{tangent-of-entry}
use Rattle.table.proofs.tangent.tanf_eval.Goals as goal

pub returns-clause-tan_k : goal.returns-clause-tan_k
unfolding tan_table
returns-clause-tan_k c = tangent-of-entry c.entry-tan_k.result (c.args.k % 64) (omega arith) c.entry-tan_k.ensures
