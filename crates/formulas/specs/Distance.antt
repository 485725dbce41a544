-- How far the sines and cosines are from the exact ones. Definitions only.
use Rattle.std.specs.Prelude.{◌≡◌, ℕ, ◌^◌, ◌<◌, ◌≢◌, from_bits, to_bits, Float}
use Rattle.std.specs.Float.{nan, binary32}
use Rattle.exact.specs.Fraction.{Fraction, ◌⊕◌, ◌⊗◌, whole, tiny}
use Rattle.exact.specs.Value.{value_of, Good}
use Rattle.exact.specs.Rounded.{half_spacing}
use Rattle.circle.specs.Circle.{exact_sine, exact_cosine}
use Rattle.reducers.specs.Exact.{field, radian_steps}
use Rattle.formulas.specs.Radians.{sinf, cosf}
use Rattle.formulas.specs.HalfTurns.{sinpif, cospif}

-- the exact steps of a float that stands for half turns, 64 steps to a turn
abbrev pub half_turn_steps : Float → Fraction
half_turn_steps x = whole 32 ⊗ value_of x

-- r is finite, and within half a spacing at r and 2 ^ -36 of v
abbrev pub Close : Float → Fraction → Type 0
Close r v = Good r v (half_spacing binary32 r ⊕ tiny 36)

-- at every finite word the answer is within half a spacing at the answer and 2 ^ -36 of the exact one, of the word's exact steps
abbrev pub Distance : (Float → Float) → (Float → Fraction) → (Fraction → Fraction) → Type 0
Distance f steps exact = (w : ℕ) → w < 2 ^ 32 → field w ≢ 255 → Close (f (from_bits binary32 w)) (exact (steps (from_bits binary32 w)))

-- at every other word the answer is not a number
abbrev pub ElsewhereNan : (Float → Float) → Type 0
ElsewhereNan f = (w : ℕ) → w < 2 ^ 32 → field w ≡ 255 → f (from_bits binary32 w) ≡ nan

-- the sine of radians: within half a spacing at the answer and 2 ^ -36 of the exact sine
abbrev pub RadianSine : Type 0
RadianSine = Distance sinf radian_steps exact_sine

-- the cosine of radians: within half a spacing at the answer and 2 ^ -36 of the exact cosine
abbrev pub RadianCosine : Type 0
RadianCosine = Distance cosf radian_steps exact_cosine

-- the sine of half turns: within half a spacing at the answer and 2 ^ -36 of the exact sine
abbrev pub HalfTurnSine : Type 0
HalfTurnSine = Distance sinpif half_turn_steps exact_sine

-- the cosine of half turns: within half a spacing at the answer and 2 ^ -36 of the exact cosine
abbrev pub HalfTurnCosine : Type 0
HalfTurnCosine = Distance cospif half_turn_steps exact_cosine

-- of infinities and NaNs none of the four is a number
abbrev pub NotFinite : Type 0
NotFinite = ElsewhereNan sinf × ElsewhereNan cosf × ElsewhereNan sinpif × ElsewhereNan cospif

-- of a float x whose word has not the exponent field 255, the answer r is within half a spacing and 2 ^ -36 of v
abbrev pub Near : Float → Float → Fraction → Type 0
Near x r v = field (to_bits binary32 x) ≢ 255 → Close r v
