use Rattle.std.proofs.Common.{sym, ◌∙◌}
use Rattle.std.proofs.lemmas.Result.{err_from_is_err_and}
use Rattle.record.proofs.Cuts.{field-short, field-tag, field-length, field-value, field-read}
use Rattle.record.proofs.item.read_field.Goals as goal

pub returns-in_err-field : goal.returns-in_err-field
returns-in_err-field c =
    let p = err_from_is_err_and c.from_residual.result c.from_residual.ensures.1 in
    rw (p.1, p.2) (field-short c.args.state c.args.bytes.now _ c.in_err-field.ensures)

pub returns-in_err-kind : goal.returns-in_err-kind
returns-in_err-kind c =
    let p = err_from_is_err_and c.from_residual-in_err-kind.result c.from_residual-in_err-kind.ensures.1 in
    rw (p.1, p.2) (field-tag c.args.state c.args.bytes.now _ c.in_ok-field.ensures _ (sym c.in_err-kind.ensures))

pub returns-then-field-length : goal.returns-then-field-length
returns-then-field-length c =
    field-length c.args.state c.args.bytes.now _ c.in_ok-field.ensures (c.in_ok-kind.kind, c.in_ok-kind.state) (sym c.in_ok-kind.ensures)
    (λ e. c.if-field-length.true (e ∙ sym c.length.ensures))

pub returns-in_err-item : goal.returns-in_err-item
returns-in_err-item c =
    let p = err_from_is_err_and c.from_residual-in_err-item.result c.from_residual-in_err-item.ensures.1 in
    rw (p.1, p.2)
    (field-value c.args.state c.args.bytes.now _ c.in_ok-field.ensures (c.in_ok-kind.kind, c.in_ok-kind.state) (sym c.in_ok-kind.ensures)
    (c.if-field-length.false ∙ c.length.ensures) _ (sym c.in_err-item.ensures))

pub returns : goal.returns
returns c =
    field-read c.args.state c.args.bytes.now _ c.in_ok-field.ensures (c.in_ok-kind.kind, c.in_ok-kind.state) (sym c.in_ok-kind.ensures)
    (c.if-field-length.false ∙ c.length.ensures) _ (sym c.in_ok-item.ensures)
