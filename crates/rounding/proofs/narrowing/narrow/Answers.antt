use Rattle.std.proofs.Common.{sym, ◌∙◌}
use Rattle.std.proofs.num.Patterns.{tested}
use Rattle.rounding.proofs.Narrows.{nan-word, narrowed, number_word}
use Rattle.rounding.proofs.narrowing.narrow.Goals as goal

pub float_from_bits-result : goal.float_from_bits-result
float_from_bits-result c = number_word c.args.x c.narrow_word.result (tested _ _ c.is_nan.ensures.value c.if-is_nan.false) c.narrow_word.ensures

pub returns-then-is_nan : goal.returns-then-is_nan
returns-then-is_nan c = narrowed c.args.x 2143289344 (nan-word c.args.x (sym c.is_nan.ensures.value ∙ c.if-is_nan.true))

pub returns-else-is_nan : goal.returns-else-is_nan
returns-else-is_nan c = narrowed c.args.x c.narrow_word.result c.narrow_word.ensures
