-- What a line asks, and its result. Definitions only.
use Rattle.std.specs.Prelude.{◌≡◌, ℕ, ◌+◌, ◌-◌, ◌*◌, cond, ◌&&◌, List, [], ◌∷◌, ◌++◌, length, Some, None, codes, Option, ◌≢◌, nat_le}
use Rattle.formulas.specs.Words.{on_word}
use Rattle.formulas.specs.Radians.{sinf, cosf, tanf}
use Rattle.formulas.specs.HalfTurns.{sinpif, cospif, tanpif}
use Rattle.sines.specs.declared.request.Function.{Function}
use Rattle.sines.specs.declared.request.Function.TheVariants.{Sinf, Cosf, Tanf, Sinpif, Cospif, Tanpif}
use Rattle.sines.specs.declared.request.Request.{Request}

-- the value of a hex digit
abbrev pub digit_of : ℕ → Option ℕ
digit_of b =
    cond (nat_le 48 b && nat_le b 57) (Some (b - 48))
    (cond (nat_le 97 b && nat_le b 102) (Some (b - 97 + 10))
    (cond (nat_le 65 b && nat_le b 70) (Some (b - 65 + 10))
    None))

-- one digit more, if it is one
abbrev pub digit_then : Option ℕ → (ℕ → Option ℕ) → Option ℕ
digit_then None f = None
digit_then (Some d) f = f d

-- the number that hex digits write after w
abbrev pub word_of : ℕ → List ℕ → Option ℕ
word_of w [] = Some w
word_of w (b ∷ l) = digit_then (digit_of b) (λ d. word_of (w * 16 + d) l)

-- the name of a function, in bytes
abbrev pub name_of : Function → List ℕ
name_of Sinf = codes "sinf"
name_of Cosf = codes "cosf"
name_of Tanf = codes "tanf"
name_of Sinpif = codes "sinpif"
name_of Cospif = codes "cospif"
name_of Tanpif = codes "tanpif"

-- r is the function of that name, if it is one
abbrev pub Named : List ℕ → Option Function → Type 0
Named name (Some f) = name ≡ name_of f
Named name None = (f : Function) → name ≢ name_of f

-- the line asks r: its function's name, a space and eight hex digits
pub record Asks (line : List ℕ) (r : Request) : Type 0 where
  pub text : List ℕ
  pub is : line ≡ name_of r.function ++ 32 ∷ text
  pub eight : length text ≡ 8
  pub digits : word_of 0 text ≡ Some r.word

-- what the line asks, if it asks anything
abbrev pub Read : List ℕ → Option Request → Type 0
Read line (Some r) = Asks line r
Read line None = (r : Request) → Asks line r → ⊥

-- the word that a request asks for
abbrev pub result_of : Request → ℕ
result_of r =
    elim r.function [
      | Sinf ↦ on_word sinf r.word
      | Cosf ↦ on_word cosf r.word
      | Tanf ↦ on_word tanf r.word
      | Sinpif ↦ on_word sinpif r.word
      | Cospif ↦ on_word cospif r.word
      | Tanpif ↦ on_word tanpif r.word
    ]
