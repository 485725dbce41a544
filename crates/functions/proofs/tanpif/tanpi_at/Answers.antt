use Rattle.std.proofs.Common.{◌<◌, cond, sym, ap, ◌∙◌, arith, le-leb}
use lib.Ieee.{binary64, neg, inf, eq, of_bits, of_fields}
use Rattle.formulas.specs.Words.{zero_of}
use borrow.Author.Tests.{lt-leb, both_ways}
use Rattle.formulas.proofs.Ways.{tangent_whole, tangent_half, tangent_quarter, tangent_quarters, tangent_other, tangent_between}
use Rattle.functions.proofs.tanpif.tanpi_at.Goals as goal
use Rattle.functions.proofs.tanpif.tanpi_at.Goals.{in_default-via-in-0-2+else-y-2, then-y+else-is_odd, else-y, in_default-via-in-16-2+else-y-4, then-y-3+else-is_odd-2, else-y-3, in_default-via-in-8+else-y-5, in_default-via-in-24+else-y-6, in_default-via-in_default-1}

pub returns-in-0 : goal.returns-in-0
returns-in-0 c =
    ap neg c.copysign.ensures ∙ sym (tangent_whole c.args.x c.args.y c.args.k c.if-y.true c.in-0.is ∙ ap (λ t. cond t (neg (zero_of c.args.x)) (zero_of c.args.x)) (le-leb 32 c.args.k c.if-is_odd.true))

pub returns-in-0-2 : goal.returns-in-0-2
returns-in-0-2 c =
    let l : c.args.k < 32 = elim c.if-y.branch [ then-y+else-is_odd w ↦ omega (arith, w.if-is_odd.false) | else-y w ↦ absurd (both_ways (eq c.args.y (of_bits binary64 0)) w.if-y.false c.if-y-2.true) ] in
    c.copysign-in-0-2.ensures ∙ sym (tangent_whole c.args.x c.args.y c.args.k c.if-y-2.true c.in-0.is ∙ ap (λ t. cond t (neg (zero_of c.args.x)) (zero_of c.args.x)) (lt-leb 32 c.args.k l))

pub returns-in-16 : goal.returns-in-16
unfolding of_bits of_fields
returns-in-16 c = sym (tangent_half c.args.x c.args.y c.args.k c.if-y-3.true c.in-16.is ∙ ap inf (le-leb 32 c.args.k c.if-is_odd-2.true))

pub returns-in-16-2 : goal.returns-in-16-2
unfolding of_bits of_fields
returns-in-16-2 c =
    let l : c.args.k < 32 = elim c.if-y-3.branch [ then-y-3+else-is_odd-2 w ↦ omega (arith, w.if-is_odd-2.false) | else-y-3 w ↦ absurd (both_ways (eq c.args.y (of_bits binary64 0)) w.if-y-3.false c.if-y-4.true) ] in
    sym (tangent_half c.args.x c.args.y c.args.k c.if-y-4.true c.in-16.is ∙ ap inf (lt-leb 32 c.args.k l))

pub returns-in-8 : goal.returns-in-8
returns-in-8 c = sym (tangent_quarter c.args.x c.args.y c.args.k c.if-y-5.true c.in-8.is)

pub returns-in-24 : goal.returns-in-24
returns-in-24 c = sym (tangent_quarters c.args.x c.args.y c.args.k c.if-y-6.true c.in-24.is)

pub returns-in_default : goal.returns-in_default
returns-in_default c =
    let x = c.args.x in
    let y = c.args.y in
    let k = c.args.k in
    c.tanpi_by_table.ensures ∙ sym (elim c.in_default.branch [
      | in_default-via-in-0-2+else-y-2 w ↦ tangent_other x y k w.if-y-2.false
      | in_default-via-in-16-2+else-y-4 w ↦ tangent_other x y k w.if-y-4.false
      | in_default-via-in-8+else-y-5 w ↦ tangent_other x y k w.if-y-5.false
      | in_default-via-in-24+else-y-6 w ↦ tangent_other x y k w.if-y-6.false
      | in_default-via-in_default-1 w ↦ tangent_between x y k (λ e. omega arith) (λ e. omega arith) (λ e. omega arith) (λ e. omega arith)
    ])
