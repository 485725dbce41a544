use Rattle.std.proofs.Common.{◌+◌, length, ap, ◌∙◌, arith, w64}
use Rattle.std.proofs.lemmas.Int.{to_z-of_z}
use Rattle.std.specs.Fmt.{signed_decimal}
use Rattle.record.specs.Page.{pasted}
use Rattle.record.proofs.Pages.{length-line, put_as_line}
use Rattle.record.proofs.text.put_signed_line.Goals as goal

pub put-a-requires : goal.put-a-requires
put-a-requires c = omega (arith, length-line c.args.word.now (signed_decimal c.args.z), c.requires)

pub put_signed-b-requires : goal.put_signed-b-requires
put_signed-b-requires c = omega (arith, length-line c.args.word.now (signed_decimal c.args.z), c.requires, c.put-a.ensures.end, ap (λ z. length (signed_decimal z)) (to_z-of_z w64 c.args.z c.ranges.z))

pub put-requires : goal.put-requires
put-requires c = omega (arith, length-line c.args.word.now (signed_decimal c.args.z), c.requires, c.put-a.ensures.end, c.put_signed-b.ensures.end, ap (λ z. length (signed_decimal z)) (to_z-of_z w64 c.args.z c.ranges.z))

pub returns : goal.returns
returns c =
    let e = to_z-of_z w64 c.args.z c.ranges.z in
    let r = put_as_line c.args.buffer.now c.put-a.new.buffer c.put_signed-b.new.buffer _ c.args.at c.put-a.result c.put_signed-b.result _ c.args.word.now (signed_decimal c.args.z) c.requires c.put-a.ensures.page c.put-a.ensures.end
    (c.put_signed-b.ensures.page ∙ ap (λ z. pasted c.put-a.new.buffer c.put-a.result (signed_decimal z)) e) (c.put_signed-b.ensures.end ∙ ap (λ z. c.put-a.result + length (signed_decimal z)) e) c.put.ensures.page c.put.ensures.end in
    record { page = r.0; end = r.1 }
