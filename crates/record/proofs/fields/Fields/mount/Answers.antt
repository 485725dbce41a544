use Rattle.std.proofs.Common.{Ok, Err, sym, ap, ◌∙◌}
use Rattle.record.specs.Record.{first_mount}
use Rattle.record.proofs.Replay.{first-said}
use Rattle.record.proofs.fields.Fields.mount.Goals as goal

pub returns-in-Ok : goal.returns-in-Ok
returns-in-Ok c =
    let t = c.in-Ok.taken in
    c.mount.ensures ∙ sym (first-said c.self.inside.state c.self.inside.total c.self.inside.rest.now (Ok (record { item = t.item; state = t.state; rest = t.rest.now })) c.in-Ok.ensures) ∙ ap first_mount c.self.view_is

pub returns-in-Err : goal.returns-in-Err
returns-in-Err c = sym (first-said c.self.inside.state c.self.inside.total c.self.inside.rest.now (Err c.in-Err.field-0) c.in-Err.ensures) ∙ ap first_mount c.self.view_is
