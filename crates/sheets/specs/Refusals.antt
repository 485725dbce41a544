-- The numbers of a sheet's refusals. Definitions only.
use Rattle.std.specs.Prelude.{ℕ}
use Rattle.sheets.specs.declared.fault.SheetFault.{SheetFault}
use Rattle.sheets.specs.declared.fault.SheetFault.TheVariants.{Unread, Taken, Absent, Full, NoPlace}

-- 7: the word has no angle; 8: the sample is not new; 9: it is not there; 10: 256 rows stand; 11: no such place
abbrev pub sheet_number : SheetFault → ℕ
sheet_number (Unread e) = 7
sheet_number Taken = 8
sheet_number Absent = 9
sheet_number Full = 10
sheet_number NoPlace = 11
