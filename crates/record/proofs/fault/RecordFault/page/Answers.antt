use Rattle.std.proofs.Common.{rules}
use Rattle.record.specs.Page.{refusal}
use Rattle.record.proofs.fault.RecordFault.page.Goals as goal

pub returns : goal.returns
unfolding refusal
returns c = search rules
