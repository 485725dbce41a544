-- What is known of a float and its pattern.
use Rattle.std.proofs.Common.{◌≡◌, ℕ, ◌*◌, ◌<◌, T, sym, subst}
use lib.Ieee.{Float, Format, top, of_bits, to_bits, fits}
use lib.Ieee.Bits.{of_bits-fits, to_bits-lt}

-- the float of a pattern is one of the format
pub fits_back : (f : Format) (x : Float) (b : ℕ) → x ≡ of_bits f b → T (fits f x)
fits_back f x b e = subst (λ z. T (fits f z)) (sym e) (of_bits-fits f b)

-- a pattern is below twice the sign's weight
pub pattern_lt : (f : Format) (x : Float) (b : ℕ) → b ≡ to_bits f x → x ≡ of_bits f b → b < 2 * top f
pattern_lt f x b is back = subst (λ z. z < 2 * top f) (sym is) (to_bits-lt f x (fits_back f x b back))
