-- What a call answers, by the rows at their places. Definitions only.
use Rattle.std.specs.Prelude.{◌≡◌, ℕ, List, length, Ok, Err, Result, slice_index_or}
use Rattle.std.specs.List.{ContainsAt as Has}
use Rattle.readers.specs.Meaning.{Steps}
use Rattle.sheets.specs.declared.book.Call.{Call}
use Rattle.sheets.specs.declared.book.Call.TheVariants.{Enter, Correct, Withdraw, RowOf, RowAt, Count, Totals}
use Rattle.sheets.specs.declared.fault.SheetFault.{SheetFault}
use Rattle.sheets.specs.declared.reply.Reply.{Reply}
use Rattle.sheets.specs.declared.reply.Reply.TheVariants.{Done, Shown, Counted, Summed}
use Rattle.sheets.specs.declared.row.Row.{Row}
use Rattle.sheets.specs.Book.{asked}
use Rattle.sheets.specs.Rows.{samples, row_totals}

-- what a call replies by the rows at their places, and what it leaves there: a question all as it was
abbrev pub Replies : List Row → Call → Reply → List Row → Type 0
Replies places (Enter e) reply after = reply ≡ Done
Replies places (Correct e) reply after = reply ≡ Done
Replies places (Withdraw s) reply after = reply ≡ Done
Replies places (RowOf s) reply after = (row : Row) × (reply ≡ Shown row) × Has places row × (row.sample ≡ s) × (after ≡ places)
Replies places (RowAt i) reply after = ((d : Row) → reply ≡ Shown (slice_index_or places i d)) × (after ≡ places)
Replies places Count reply after = (reply ≡ Counted (length places)) × (after ≡ places)
Replies places Totals reply after = (reply ≡ Summed (row_totals places)) × (after ≡ places)

-- the answer to a call: refused, as the first no decides, and all is left as it was; or a reply
abbrev pub Answer : (ℕ → Steps) → List Row → Call → Result Reply SheetFault → List Row → Type 0
Answer steps places call (Err e) after = (asked steps (samples places) call ≡ Err e) × (after ≡ places)
Answer steps places call (Ok reply) after = (asked steps (samples places) call ≡ Ok tt) × Replies places call reply after
