-- What the needle answers, and how near it points. Definitions only.
use Rattle.std.specs.Prelude.{◌%◌, Some, None, Ok, Err, Result, Float}
use Rattle.exact.specs.Fraction.{tiny}
use Rattle.exact.specs.Value.{Good}
use Rattle.circle.specs.Circle.{exact_sine, exact_cosine}
use Rattle.readers.specs.declared.reader.ReaderFault.{ReaderFault}
use Rattle.readers.specs.Meaning.{Steps, Reading}
use Rattle.shares.specs.Share.{sine32, cosine32}

-- the pair by the table text in the f32 form, or the reader's refusal unaltered
unfoldable pub needle_of : Reading → Result (Float × Float) ReaderFault
needle_of (Ok a) = Ok (sine32 a.1 (a.0 % 64), cosine32 a.1 (a.0 % 64))
needle_of (Err e) = Err e

-- refused exactly where the word has no angle, else each part is finite and within 2 ^ -10 of the exact sine and cosine
abbrev pub Points : Steps → Result (Float × Float) ReaderFault → Type 0
Points None (Ok p) = ⊥
Points None (Err e) = Unit {0}
Points (Some u) (Ok p) = Good p.0 (exact_sine u) (tiny 10) × Good p.1 (exact_cosine u) (tiny 10)
Points (Some u) (Err e) = ⊥
