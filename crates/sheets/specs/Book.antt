-- The plain book: which rows stand after a list of calls, by the meaning of the words alone. Definitions only.
use Rattle.std.specs.Prelude.{ℕ, cond, not, List, [], ◌∷◌, ◌++◌, map, length, Some, None, Ok, Err, fold, filter, Result, ◌==◌, nat_lt}
use Rattle.readers.specs.Meaning.{Steps}
use Rattle.readers.specs.declared.reader.ReaderFault.TheVariants.{NoAngle}
use Rattle.sheets.specs.declared.fault.SheetFault.{SheetFault}
use Rattle.sheets.specs.declared.fault.SheetFault.TheVariants.{Unread, Taken, Absent, Full, NoPlace}
use Rattle.sheets.specs.declared.book.Entry.{Entry}
use Rattle.sheets.specs.declared.book.Call.{Call}
use Rattle.sheets.specs.declared.book.Call.TheVariants.{Enter, Correct, Withdraw, RowOf, RowAt, Count, Totals}
use Rattle.sheets.specs.Rows.{among}

-- entering: has the word an angle, is the sample new, are there fewer than 256 rows; the first no decides
abbrev pub may_enter : Steps → List ℕ → ℕ → Result (Unit {0}) SheetFault
may_enter None samples s = Err (Unread NoAngle)
may_enter (Some u) samples s = cond (among s samples) (Err Taken) (cond (nat_lt (length samples) 256) (Ok tt) (Err Full))

-- correcting: has the word an angle, is the sample there
abbrev pub may_correct : Steps → List ℕ → ℕ → Result (Unit {0}) SheetFault
may_correct None samples s = Err (Unread NoAngle)
may_correct (Some u) samples s = cond (among s samples) (Ok tt) (Err Absent)

-- withdrawing: is the sample there
abbrev pub may_withdraw : List ℕ → ℕ → Result (Unit {0}) SheetFault
may_withdraw samples s = cond (among s samples) (Ok tt) (Err Absent)

-- what follows a yes, and what a no
abbrev pub allowed : {X : Type 0} → Result (Unit {0}) SheetFault → X → X → X
allowed (Ok u) yes' no' = yes'
allowed (Err e) yes' no' = no'

-- row at a place: is the place below the count
abbrev pub may_place : List ℕ → ℕ → Result (Unit {0}) SheetFault
may_place samples i = cond (nat_lt i (length samples)) (Ok tt) (Err NoPlace)

-- may the call be made, where these samples stand; row by sample asks what withdrawing asks
abbrev pub asked : (ℕ → Steps) → List ℕ → Call → Result (Unit {0}) SheetFault
asked steps samples (Enter e) = may_enter (steps e.word) samples e.sample
asked steps samples (Correct e) = may_correct (steps e.word) samples e.sample
asked steps samples (Withdraw s) = may_withdraw samples s
asked steps samples (RowOf s) = may_withdraw samples s
asked steps samples (RowAt i) = may_place samples i
asked steps samples Count = Ok tt
asked steps samples Totals = Ok tt

-- the book's sample numbers
abbrev pub given : List Entry → List ℕ
given book = map (λ e. e.sample) book

-- one call on the book: a call that gets a no changes nothing, nor does a question
abbrev pub written : (ℕ → Steps) → List Entry → Call → List Entry
written steps book (Enter e) = allowed (may_enter (steps e.word) (given book) e.sample) (book ++ e ∷ []) book
written steps book (Correct e) = allowed (may_correct (steps e.word) (given book) e.sample) (map (λ f. cond (f.sample == e.sample) e f) book) book
written steps book (Withdraw s) = allowed (may_withdraw (given book) s) (filter (λ f. not (f.sample == s)) book) book
written steps book (RowOf s) = book
written steps book (RowAt i) = book
written steps book Count = book
written steps book Totals = book

-- the rows standing after the calls, from a new book
abbrev pub standing_after : (ℕ → Steps) → List Call → List Entry
standing_after steps calls = fold (written steps) [] calls
