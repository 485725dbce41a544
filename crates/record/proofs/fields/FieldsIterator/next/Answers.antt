use Rattle.std.proofs.Common.{rules, ◌≡◌, ◌-◌, ◌<◌, ◌∷◌, [], length, Ok, Err, sym, ap, ◌∙◌, arith}
use Rattle.record.proofs.Cuts.{field-shorter}
use Rattle.record.proofs.Replay.{fields-none, fields-empty, fields-step}
use Rattle.record.proofs.fields.FieldsIterator.next.Goals as goal

pub returns-then-is_empty-clause-steps : goal.returns-then-is_empty-clause-steps
returns-then-is_empty-clause-steps c =
    let none : length c.self.inside.rest.now ≡ 0 = search rules in
    let e : c.args.self.now ≡ [] = sym c.self.view_is ∙ fields-empty c.self.inside.state c.self.inside.total c.self.inside.rest.now none in
    (e, e)

pub invariant_of-self : goal.invariant_of-self
invariant_of-self c = omega (arith, field-shorter c.self.inside.state c.self.inside.rest.now _ c.in-Ok.ensures, c.self.invariant)

pub returns-in-Ok-clause-steps : goal.returns-in-Ok-clause-steps
returns-in-Ok-clause-steps c =
    let there : 0 < length c.self.inside.rest.now = search rules in
    sym c.self.view_is ∙ fields-step c.self.inside.state c.self.inside.total c.self.inside.rest.now (Ok (record { item = c.in-Ok.taken.item; state = c.in-Ok.taken.state; rest = c.in-Ok.taken.rest.now })) there c.in-Ok.ensures

pub returns-in-Ok-clause-goes : goal.returns-in-Ok-clause-goes
returns-in-Ok-clause-goes c = rw (returns-in-Ok-clause-steps c) (search rules)

pub returns-in-Err-clause-steps : goal.returns-in-Err-clause-steps
returns-in-Err-clause-steps c =
    let there : 0 < length c.self.inside.rest.now = search rules in
    sym c.self.view_is ∙ fields-step c.self.inside.state c.self.inside.total c.self.inside.rest.now (Err c.in-Err.cause) there c.in-Err.ensures
    ∙ ap (λ l. record { at = c.self.inside.total - length c.self.inside.rest.now; said = Err c.in-Err.cause } ∷ l) (sym (fields-none 0 c.self.inside.state c.self.inside.total))

pub returns-in-Err-clause-goes : goal.returns-in-Err-clause-goes
returns-in-Err-clause-goes c = rw (returns-in-Err-clause-steps c) (search rules)
