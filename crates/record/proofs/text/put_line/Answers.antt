use Rattle.std.proofs.Common.{decimal, arith}
use Rattle.record.proofs.Pages.{length-line, put_as_line}
use Rattle.record.proofs.text.put_line.Goals as goal

pub put-a-requires : goal.put-a-requires
put-a-requires c = omega (arith, length-line c.args.word.now (decimal c.args.n), c.requires)

pub put_decimal-b-requires : goal.put_decimal-b-requires
put_decimal-b-requires c = omega (arith, length-line c.args.word.now (decimal c.args.n), c.requires, c.put-a.ensures.end)

pub put-requires : goal.put-requires
put-requires c = omega (arith, length-line c.args.word.now (decimal c.args.n), c.requires, c.put-a.ensures.end, c.put_decimal-b.ensures.end)

pub returns : goal.returns
returns c =
    let r = put_as_line c.args.buffer.now c.put-a.new.buffer c.put_decimal-b.new.buffer _ c.args.at c.put-a.result c.put_decimal-b.result _ c.args.word.now (decimal c.args.n) c.requires c.put-a.ensures.page c.put-a.ensures.end c.put_decimal-b.ensures.page c.put_decimal-b.ensures.end c.put.ensures.page c.put.ensures.end in
    record { page = r.0; end = r.1 }
