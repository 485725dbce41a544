-- A row that was made, and one that was rewritten. Definitions only.
use Rattle.shares.specs.declared.share.Shares.{Shares}
use Rattle.sheets.specs.declared.book.Entry.{Entry}
use Rattle.sheets.specs.declared.row.Row.{Row}

-- an entry with these shares
abbrev pub entry_row : Entry → Shares → Row
entry_row e s = record { sample = e.sample; speed = e.speed; word = e.word; sine = s.sine; cosine = s.cosine }

-- a row at its sample, with all else new
abbrev pub rewritten : Row → Entry → Shares → Row
rewritten r e s = record { sample = r.sample; speed = e.speed; word = e.word; sine = s.sine; cosine = s.cosine }
