-- A sheet beside the plain book. Definitions only.
use Rattle.std.specs.Prelude.{ℕ, ◌^◌, ◌<◌, List, map}
use Rattle.std.specs.List.{AllByRecursion}
use Rattle.readers.specs.Meaning.{Steps, Reading}
use Rattle.sheets.specs.declared.book.Call.{Call}
use Rattle.sheets.specs.declared.book.Entry.{Entry}
use Rattle.sheets.specs.declared.row.Row.{Row}
use Rattle.sheets.specs.Book.{written}
use Rattle.sheets.specs.Sheets.{InAnyOrder, row_for}

-- an entry of the book with the shares that the reader's answer gives
abbrev pub filled : (ℕ → Reading) → Entry → Row
filled answer e = row_for (answer e.word) e.sample e.speed e.word

-- the sheet's rows are the book's, each with its shares, in any order; every word has 32 bits
pub record Grown (answer : ℕ → Reading) (book : List Entry) (rows : List Row) : Type 0 where
  pub order : InAnyOrder rows (map (filled answer) book)
  pub words : AllByRecursion (λ e. e.word < 2 ^ 32) book

-- where the rows before a call are a book's, those after it are the book's with the call written
abbrev pub GrownBy : (ℕ → Steps) → (ℕ → Reading) → Call → List Row → List Row → Type 0
GrownBy steps answer call old new = (book : List Entry) → Grown answer book old → Grown answer (written steps book call) new
