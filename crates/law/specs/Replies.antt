-- What each call of a run answers. Definitions only.
use Rattle.std.specs.Prelude.{◌≡◌, ℕ, Ok, List, [], ◌∷◌, map}
use Rattle.readers.specs.Meaning.{Steps, Reading}
use Rattle.sheets.specs.declared.book.Call.{Call}
use Rattle.sheets.specs.declared.book.Entry.{Entry}
use Rattle.sheets.specs.declared.reply.Reply.TheVariants.{Done}
use Rattle.sheets.specs.declared.row.Row.{Row}
use Rattle.sheets.specs.Book.{written}
pub use Rattle.sheets.specs.Replies.{Answer, Replies}
use Rattle.sheets.specs.Runs.{filled}
use Rattle.sheets.specs.Sheets.{InAnyOrder}
use Rattle.law.specs.declared.asking.Asked.{Asked}

-- a call that is still to be asked: the answer beside it is written over
abbrev pub unasked : Call → Asked
unasked call = record { call = call; answer = Ok Done }

-- the calls without their answers
abbrev pub calls_of : List Asked → List Call
calls_of list = map (λ a. a.call) list

-- call by call from a book and its places to the last ones: after each call the places show the book's rows, each once
abbrev pub Run : (ℕ → Steps) → (ℕ → Reading) → List Entry → List Row → List Asked → List Row → Type 0
Run steps answer book places [] last = places ≡ last
Run steps answer book places (a ∷ list) last =
    (after : List Row)
    × Answer steps places a.call a.answer after
    × InAnyOrder after (map (filled answer) (written steps book a.call))
    × Run steps answer (written steps book a.call) after list last
