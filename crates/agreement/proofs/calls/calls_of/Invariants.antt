use Rattle.std.proofs.Common.{◌≡◌, ◌++◌, vec_items}
use Rattle.record.specs.Record.{fields_of}
use Rattle.record.specs.Outcome.{calls_in}
use Rattle.agreement.proofs.calls.calls_of.Given as goal

abbrev pub invariant-loop-field : goal.invariant-loop-field
invariant-loop-field l = vec_items l.calls ++ calls_in l.field-iterator ≡ calls_in (fields_of l.initial.bytes)
