-- A reader of whole steps. Definitions only.
use Rattle.std.specs.Prelude.{ℕ, ◌%◌, Some, Ok, from_bits}
use Rattle.std.specs.Float.{binary64}
use Rattle.exact.specs.Fraction.{whole}
use Rattle.readers.specs.Meaning.{Steps, Reading}

-- every word is an angle, of as many steps
abbrev pub whole_steps : ℕ → Steps
whole_steps w = Some (whole w)

-- exactly
abbrev pub whole_answer : ℕ → Reading
whole_answer w = Ok (w % 64, from_bits binary64 0)
