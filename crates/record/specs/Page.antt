-- The text of a report and of a refusal, and a text on a page. Definitions only.
use Rattle.std.specs.Prelude.{◌≡◌, ℕ, ◌+◌, ◌<◌, ◌≤◌, cond, List, [], ◌∷◌, ◌++◌, length, take, drop, ℤ, Ok, Err, codes, decimal, Result, nat_lt}
use Rattle.std.specs.Fmt.{signed_decimal}
use Rattle.record.specs.declared.edition.Edition.{Edition}
use Rattle.record.specs.declared.fault.Cause.TheVariants.{Buffer, TooLong}
use Rattle.record.specs.declared.fault.RecordFault.{RecordFault}
use Rattle.record.specs.declared.tally.Tally.{Tally}
use Rattle.record.specs.Fields.{edition_number}
use Rattle.record.specs.Refusals.{cause_number}
use Rattle.record.specs.Record.{record_tally}

-- a page with a text from place n on, and all else as it was
abbrev pub pasted : List ℕ → ℕ → List ℕ → List ℕ
pasted page n text = take n page ++ (text ++ drop (n + length text) page)

-- a line: a word, a number's text, and the byte 10
unfoldable pub line : List ℕ → List ℕ → List ℕ
line word number = (word ++ number) ++ (10 ∷ [])

-- five lines: edition, rows, speed, along and across
unfoldable pub lines : Edition → ℕ → ℕ → ℤ → ℤ → List ℕ
lines edition rows speed along across =
    (((line (codes "edition ") (decimal (edition_number edition)) ++ line (codes "rows ") (decimal rows)) ++ line (codes "speed ") (decimal speed)) ++ line (codes "along ") (signed_decimal along)) ++ line (codes "across ") (signed_decimal across)

-- the text of a report
abbrev pub report_text : Tally → List ℕ
report_text t = lines t.edition t.rows t.totals.speed t.totals.along t.totals.across

-- a line: refused, a number, at, a place
unfoldable pub refusal : ℕ → ℕ → List ℕ
refusal number place = (((codes "refused " ++ decimal number) ++ codes " at ") ++ decimal place) ++ (10 ∷ [])

-- the text of a refusal
abbrev pub refusal_text : RecordFault → List ℕ
refusal_text f = refusal (cause_number f.cause) f.offset

-- the outcome of a report: has the buffer at least 96 bytes, has the record at most 65,536, then the record's own
abbrev pub outcome_of : ℕ → List ℕ → Result Tally RecordFault
outcome_of room bytes = cond (nat_lt room 96) (Err (record { cause = Buffer; offset = 0 })) (cond (nat_lt 65536 (length bytes)) (Err (record { cause = TooLong; offset = 0 })) (record_tally bytes))

-- what was answered, and the buffer before and after: the text from its first byte on and its length, or the refusal and nothing written
abbrev pub Reported : Result Tally RecordFault → Result ℕ RecordFault → List ℕ → List ℕ → Type 0
Reported (Ok t) (Ok n) before after = (n ≡ length (report_text t)) × (after ≡ pasted before 0 (report_text t))
Reported (Ok t) (Err e) before after = ⊥
Reported (Err f) (Ok n) before after = ⊥
Reported (Err f) (Err e) before after = (e ≡ f) × (after ≡ before)

-- the same of a refusal's line: has the buffer at least 96 bytes?
abbrev pub Told : RecordFault → Result ℕ RecordFault → List ℕ → List ℕ → Type 0
Told f (Ok n) before after = (96 ≤ length before) × (n ≡ length (refusal_text f)) × (after ≡ pasted before 0 (refusal_text f))
Told f (Err e) before after = (length before < 96) × (e ≡ record { cause = Buffer; offset = 0 }) × (after ≡ before)

-- what is printed of an outcome: the report, or the refusal's line
abbrev pub text_of : Result Tally RecordFault → List ℕ
text_of (Ok t) = report_text t
text_of (Err f) = refusal_text f

-- a length that was answered, and the buffer before and after: with at least 96 bytes, what is printed from its first byte on; else 0 and nothing written
pub record Printed (bytes : List ℕ) (n : ℕ) (before after : List ℕ) : Type 0 where
  pub some : 96 ≤ length before → (n ≡ length (text_of (outcome_of (length before) bytes))) × (after ≡ pasted before 0 (text_of (outcome_of (length before) bytes)))
  pub none : length before < 96 → (n ≡ 0) × (after ≡ before)
