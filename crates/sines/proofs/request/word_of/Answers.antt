use Rattle.std.proofs.Common.{rules, ◌∙◌, ap, arith}
use Rattle.sines.proofs.Digits.{folded, pushed, pushed_word}
use Rattle.sines.proofs.request.word_of.Goals as goal

pub returns : goal.returns
returns c =
    let h = c.try_fold.ensures.ran in
    folded _ _ (λ f f' w x v k. search rules) h.0 h.1 c.iter.result h.4.0 c.try_fold.new.self tt h.2 0 h.3 c.try_fold.result h.4.1 h.4.2 h.5 h.6 ∙ ap (pushed 0) c.iter.ensures.rest ∙ pushed_word 0 0 c.args.text.now (omega arith) (omega (arith, c.requires))
