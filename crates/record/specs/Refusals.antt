-- The numbers of a record's refusals, and a refusal with its place. Definitions only.
use Rattle.std.specs.Prelude.{ℕ, Ok, Err, Result}
use Rattle.sheets.specs.Refusals.{sheet_number}
use Rattle.record.specs.declared.fault.Cause.{Cause}
use Rattle.record.specs.declared.fault.Cause.TheVariants.{Buffer, TooLong, Short, Tag, Length, Value, Refused}
use Rattle.record.specs.declared.fault.RecordFault.{RecordFault}

-- 1: buffer too small; 2: record too long; 3: field not whole; 4: tag out of place; 5: wrong length; 6: value not allowed; 7 to 11: the sheet's
abbrev pub cause_number : Cause → ℕ
cause_number Buffer = 1
cause_number TooLong = 2
cause_number Short = 3
cause_number Tag = 4
cause_number Length = 5
cause_number Value = 6
cause_number (Refused e) = sheet_number e

-- a refusal with the offset of the field's tag
abbrev pub located : {X : Type 0} → ℕ → Result X Cause → Result X RecordFault
located n (Ok x) = Ok x
located n (Err c) = Err (record { cause = c; offset = n })
