-- What a reader's words mean, what reading answers, and the promise that ties the two. Definitions only.
use Rattle.std.specs.Prelude.{ℕ, ◌+◌, ◌-◌, ◌*◌, ◌%◌, ◌<◌, Some, None, Ok, Err, Option, Result, Float}
use Rattle.std.specs.Float.Ieee.{neg as negate}
use Rattle.exact.specs.Fraction.{Fraction, ◌⊕◌, neg, whole, frac, tiny}
use Rattle.exact.specs.Value.{value_of, Held}
use Rattle.circle.specs.Circle.{Alike}
use Rattle.readers.specs.declared.reader.ReaderFault.{ReaderFault}

-- a word's meaning: no angle, or its exact steps, 64 to a turn
abbrev pub Steps : Type 0
Steps = Option Fraction

-- what reading answers: the step count k and the remainder y, or a refusal
abbrev pub Reading : Type 0
Reading = Result (ℕ × Float) ReaderFault

-- k of 0 to 63, |y| ≤ 3/4, and k + y is within 2 ^ -50 of the steps u, whole turns aside
pub record Answers (u : Fraction) (k : ℕ) (y : Float) : Type 0 where
  pub step : k < 64
  pub rest : Held y (frac 3 4)
  pub near : Alike (whole k ⊕ value_of y) u (tiny 50)

-- the promise for one word: refused exactly where it has no angle, else answered near its steps
abbrev pub Keeps : Steps → Reading → Type 0
Keeps None (Ok a) = ⊥
Keeps None (Err e) = Unit {0}
Keeps (Some u) (Ok a) = Answers u a.0 a.1
Keeps (Some u) (Err e) = ⊥

-- a turned mount's steps: 16 q more
abbrev pub turned_steps : ℕ → Steps → Steps
turned_steps q (Some u) = Some (u ⊕ whole (16 * q))
turned_steps q None = None

-- and its answer: k + 16 q modulo 64, the same y
abbrev pub turned_answer : ℕ → Reading → Reading
turned_answer q (Ok a) = Ok ((a.0 + 16 * q) % 64, a.1)
turned_answer q (Err e) = Err e

-- a mirrored mount's steps: negated
abbrev pub mirrored_steps : Steps → Steps
mirrored_steps (Some u) = Some (neg u)
mirrored_steps None = None

-- and its answer: - k modulo 64, - y
abbrev pub mirrored_answer : Reading → Reading
mirrored_answer (Ok a) = Ok ((64 - a.0) % 64, negate a.1)
mirrored_answer (Err e) = Err e
