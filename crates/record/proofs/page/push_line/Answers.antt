use Rattle.std.proofs.Common.{[], ◌∷◌, ◌++◌, ap, ◌∙◌, append_assoc, arith}
use Rattle.record.specs.Page.{line}
use Rattle.record.proofs.Pages.{length-line}
use Rattle.record.proofs.page.push_line.Goals as goal

pub push_str-requires : goal.push_str-requires
push_str-requires c = omega (arith, c.requires, length-line c.args.word.now c.args.number.now)

pub push_str-requires-2 : goal.push_str-requires-2
push_str-requires-2 c = omega (arith, c.requires, length-line c.args.word.now c.args.number.now, c.push_str.ensures.len)

pub push_str-requires-3 : goal.push_str-requires-3
push_str-requires-3 c = omega (arith, c.requires, length-line c.args.word.now c.args.number.now, c.push_str.ensures.len, c.push_str-2.ensures.len)

pub returns : goal.returns
unfolding line
returns c =
    c.push_str-3.ensures.bytes ∙ ap (λ l. l ++ (10 ∷ [])) (c.push_str-2.ensures.bytes ∙ ap (λ l. l ++ c.args.number.now) c.push_str.ensures.bytes)
    ∙ ap (λ l. l ++ (10 ∷ [])) (append_assoc c.args.page.now.bytes c.args.word.now c.args.number.now)
    ∙ append_assoc c.args.page.now.bytes (c.args.word.now ++ c.args.number.now) (10 ∷ [])
