use Rattle.std.proofs.Common.{◌≡◌, ◌-◌, length, take, map, reverse, fold, sym, ap, ◌∙◌, rules}
use Rattle.std.proofs.lemmas.List.Folds.{fold-map}
use Rattle.forms.specs.Polyeval.{zero}
use Rattle.forms.proofs.Horner.{onto, split_made}
use Rattle.forms.proofs.polyeval_by.Goals as goal

pub returns : goal.returns
returns g c made e =
    let F = g.T.Form in
    let x = c.args.x in
    let l = c.args.coefficients.now in
    let lower = reverse (take (length l - 1) l) in
    let step = onto F.mla (F.made zero) x made in
    let m = c.fold.ensures.runs.0.items in
    let run = c.fold.ensures.runs.3 (λ s b. step s b.now) (λ s b r f' k. search (rules, e)) in
    let items : map (λ b. b.now) m ≡ lower = search rules in
    run ∙ sym (fold-map step (λ b. b.now) c.make-in-len1-up.result m)
    ∙ ap (fold step c.make-in-len1-up.result) items
    ∙ ap (λ h. fold step h lower) (e c.highest-item.result c.make-in-len1-up.result c.make-in-len1-up.ensures)
    ∙ split_made F.mla (F.made zero) x made l c.highest-item.result c.in-len1-up.len_at_least c.highest-item.is
