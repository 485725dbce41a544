use Rattle.std.proofs.Common.{◌≡◌, ℕ, ◌%◌, ◌<◌, sym, ap, ◌∙◌, mod-eq_of_lt, arith, rules}
use lib.Ieee.{Float, binary32, of_bits, to_bits}
use Rattle.reducers.specs.Reduce.{reduce_pi}
use Rattle.reducers.specs.Exact.{mod_turn}
use Rattle.table.specs.Tangents.{tangent_of, table_tangent, tan_of_y}
use Rattle.formulas.specs.Words.{size_bits, narrowed}
use Rattle.formulas.specs.HalfTurns.{tanpi_at, tanpif}
use Rattle.formulas.proofs.Ways.{tanpi_table, tangent_other, tanpif-nan, tanpif-even, tanpif-rest}
use Rattle.functions.proofs.Wording.{clean, size_is, nan_way}
use Rattle.functions.proofs.tanpif.TanpifCircular.at.Goals as goal

pub returns-then-x_abs-ge-INFINITE : goal.returns-then-x_abs-ge-INFINITE
returns-then-x_abs-ge-INFINITE c = nan_way tanpif c.args.word c.ranges.word.fits tanpif-nan c.if-x_abs-ge-INFINITE.true

pub returns-then-x_abs-ge1266679808 : goal.returns-then-x_abs-ge1266679808
returns-then-x_abs-ge1266679808 c =
    let w = c.args.word in
    let x = of_bits binary32 w in
    let s : size_bits x ≡ w % 2147483648 = size_is w c.ranges.word.fits c.if-x_abs-ge-INFINITE.false in
    c.zero_like.ensures ∙ ap (to_bits binary32) (sym (tanpif-even x (omega arith) (omega arith)))

pub float_from_bits-word : goal.float_from_bits-word
float_from_bits-word c = clean c.args.word c.if-x_abs-ge-INFINITE.false

-- the reduced float and its step
at-step : (x z y : Float) (k : ℕ) → size_bits x < 0x4b800000 → z ≡ x → y ≡ (reduce_pi z).0 → k ≡ mod_turn (reduce_pi z).1 → tanpi_at x y k ≡ tanpif x
at-step x z y k s i e h = ap (tanpi_at x y) h ∙ ap (λ r. tanpi_at x r (mod_turn (reduce_pi z).1)) e ∙ ap (λ q. tanpi_at x (reduce_pi q).0 (mod_turn (reduce_pi q).1)) i ∙ sym (tanpif-rest x s)

pub returns-then-x_abs-lt-TWO_TERMS_BOUND : goal.returns-then-x_abs-lt-TWO_TERMS_BOUND
returns-then-x_abs-lt-TWO_TERMS_BOUND c =
    let w = c.args.word in
    let x = of_bits binary32 w in
    let s : size_bits x ≡ w % 2147483648 = size_is w c.ranges.word.fits c.if-x_abs-ge-INFINITE.false in
    c.f32_to_bits_with_nan.ensures ∙ ap (to_bits binary32) (c.tanpi_at.ensures ∙ at-step x c.widened.result c.steps-y.result.0 c.steps-y.result.1 (omega arith) c.widened.ensures c.steps-y.ensures.rest c.steps-y.ensures.step)

pub returns : goal.returns
returns c =
    let w = c.args.word in
    let x = of_bits binary32 w in
    let y = c.steps-y.result.0 in
    let k = c.steps-y.result.1 in
    let s : size_bits x ≡ w % 2147483648 = size_is w c.ranges.word.fits c.if-x_abs-ge-INFINITE.false in
    let l : k < 64 = search rules in
    c.narrow_word.ensures
    ∙ ap (to_bits binary32) (ap narrowed (c.tangent.ensures ∙ ap (λ z. tangent_of z c.tanf_eval.result.tan_k) c.tanf_eval.ensures.tan_y ∙ ap (tangent_of (tan_of_y y)) (c.tanf_eval.ensures.tan_k ∙ ap table_tangent (mod-eq_of_lt l)))
    ∙ sym (tangent_other x y k c.if-y.false ∙ tanpi_table x y k (omega arith))
    ∙ at-step x c.widened.result y k (omega arith) c.widened.ensures c.steps-y.ensures.rest c.steps-y.ensures.step)
