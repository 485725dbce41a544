use Rattle.std.proofs.Common.{rules, ◌≡◌, Err, sym, ap, ◌∙◌}
use Rattle.record.specs.Record.{tallied}
use Rattle.record.proofs.Tallies.{record-none, record-refused, told-is}
use Rattle.record.proofs.reading.read_record.Goals as goal

pub returns-in_default : goal.returns-in_default
returns-in_default c = ap Err c.at.ensures ∙ record-none c.args.bytes.now (search rules)

pub returns-in-Err : goal.returns-in-Err
returns-in-Err c =
    let f = c.in-Some.first in
    let refused : f.said ≡ Err c.in-Err.cause = search rules in
    ap Err c.at-in-Err.ensures ∙ record-refused c.args.bytes.now f c.in-Err.cause c.next.new.self (sym c.of-fields.ensures ∙ c.in-Some.ensures.steps) refused

pub returns : goal.returns
returns c =
    let m = c.opening-reader.result in
    let all = sym c.of-fields.ensures ∙ c.in-Some.ensures.steps in
    c.tally_over.ensures ∙ ap (tallied m.edition m.mount) (c.of.ensures ∙ all)
    ∙ told-is c.args.bytes.now c.in-Some.first c.next.new.self m.edition m.mount all c.opening-reader.ensures.edition c.opening-reader.ensures.mount
