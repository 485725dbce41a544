use Rattle.std.proofs.Common.{rules, sym, ap, ◌∙◌, subst, ◌≡◌}
use Rattle.std.proofs.lemmas.List.{map-id}
use Rattle.forms.specs.Polyeval.{zero, horner, Evaluates}
use Rattle.forms.proofs.Polys.{near_list}
use Rattle.forms.proofs.f_polyeval.Goals as goal

pub returns : goal.returns
returns g c =
    let F = g.T.Form in
    let x = c.args.x in
    let l = c.args.coefficients.now in
    let is : c.polyeval_by.result ≡ horner F.mla (F.made zero) x l = c.polyeval_by.ensures (λ a. a) (λ a r e. search rules) ∙ ap (horner F.mla (F.made zero) x) (map-id l) in
    record { is = is; near = λ n. subst (λ r. Evaluates F.mean F.h 128 x l r) (sym is) (near_list g.met.T.Form.promise x l n) }
