use Rattle.std.proofs.Common.{sym, ap, ◌∙◌, mod-eq_of_lt, arith}
use lib.Ieee.{binary64, mul}
use Rattle.table.specs.Tangents.{tangent_of, table_tangent, tan_of_y}
use Rattle.formulas.specs.Words.{fmla, narrowed}
use Rattle.formulas.specs.HalfTurns.{pi, pi3_over3}
use Rattle.formulas.proofs.Ways.{tanpi_tiny, tanpi_table}
use Rattle.functions.proofs.tanpif.tanpi_by_table.Goals as goal

pub returns-then-size_bits-lt-TWO_TERMS_BOUND : goal.returns-then-size_bits-lt-TWO_TERMS_BOUND
returns-then-size_bits-lt-TWO_TERMS_BOUND c =
    c.narrow.ensures ∙ ap (λ z. narrowed (mul binary64 z c.f32_to_f64_with_nan-dx.result)) c.f_fmla.ensures
    ∙ ap (λ z. narrowed (mul binary64 (fmla (mul binary64 z z) pi3_over3 pi) z)) c.f32_to_f64_with_nan-dx.ensures
    ∙ sym (tanpi_tiny c.args.x c.args.y c.args.k (omega arith))

pub returns : goal.returns
returns c =
    c.narrow-2.ensures
    ∙ ap narrowed (c.tangent.ensures ∙ ap (λ z. tangent_of z c.tanf_eval.result.tan_k) c.tanf_eval.ensures.tan_y ∙ ap (tangent_of (tan_of_y c.args.y)) (c.tanf_eval.ensures.tan_k ∙ ap table_tangent (mod-eq_of_lt c.requires)))
    ∙ sym (tanpi_table c.args.x c.args.y c.args.k (omega arith))
