use Rattle.std.proofs.Common.{sym, ◌∙◌, arith, rules}
use Rattle.std.proofs.num.Patterns.{tested}
use Rattle.rounding.proofs.Narrows.{nan-word, narrow-word-joined}
use Rattle.rounding.proofs.narrowing.narrow_word.Goals as goal

pub returns-then-is_nan : goal.returns-then-is_nan
returns-then-is_nan c = nan-word c.args.x (sym c.is_nan.ensures.value ∙ c.if-is_nan.true)

pub returns-then-size-2 : goal.returns-then-size-2
returns-then-size-2 c =
    narrow-word-joined c.args.x c.narrow_bits.result (search rules) (tested _ _ c.is_nan.ensures.value c.if-is_nan.false) (omega (arith, c.if-size.true)) (omega (arith, c.if-size-2.true)) c.narrow_bits.type_inv c.narrow_bits.ensures
