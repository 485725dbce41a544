-- Polynomials by lists of their coefficients. Definitions only.
use Rattle.std.specs.Prelude.{Float, List, get_or}
use Rattle.std.specs.Float.{binary64}
use Rattle.std.specs.Float.Ieee.{mul}
use Rattle.forms.specs.Polyeval.{polyeval5}
use Rattle.formulas.specs.Words.{fmla, zero64}

-- an even polynomial of degree 8 at x, by its coefficients from that of x⁰ up
abbrev pub even : Float → List Float → Float
even x a = polyeval5 fmla (mul binary64 x x) (get_or a 0 zero64) (get_or a 1 zero64) (get_or a 2 zero64) (get_or a 3 zero64) (get_or a 4 zero64)
