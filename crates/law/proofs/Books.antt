-- The plain book: every word that stands has an angle.
use Rattle.std.proofs.Common.{◌≡◌, ℕ, true, cond, not, eqb, List, [], ◌∷◌, ◌++◌, map, is_some, Some, None, Ok, Err, fold, filter, Result, refl}
use Rattle.std.specs.List.{AllByRecursion}
use Rattle.std.proofs.ByRecursion.{All-push, all_kept_by}
use Rattle.readers.specs.Meaning.{Steps}
use Rattle.sheets.specs.declared.book.Call.{Call}
use Rattle.sheets.specs.declared.book.Call.TheVariants.{Enter, Correct, Withdraw, RowOf, RowAt, Count, Totals}
use Rattle.sheets.specs.declared.book.Entry.{Entry}
use Rattle.sheets.specs.declared.fault.SheetFault.{SheetFault}
use Rattle.sheets.specs.Book.{allowed, may_enter, may_correct, may_withdraw, given, written, standing_after}
use Rattle.sheets.proofs.Runs.{all-replaced}

abbrev pub Angled : (ℕ → Steps) → Entry → Type 0
Angled steps e = is_some (steps e.word) ≡ true

pub all-allowed : (P : Entry → Type 0) (r : Result (Unit {0}) SheetFault) (es fs : List Entry) → AllByRecursion P es → AllByRecursion P fs → AllByRecursion P (allowed r es fs)
all-allowed P (Ok u) es fs h k = h
all-allowed P (Err e) es fs h k = k

pub all-entered : (P : Entry → Type 0) (o : Steps) (book : List Entry) (e : Entry) → (is_some o ≡ true → P e) → AllByRecursion P book → AllByRecursion P (allowed (may_enter o (given book) e.sample) (book ++ e ∷ []) book)
all-entered P None book e p h = h
all-entered P (Some u) book e p h = all-allowed P (may_enter (Some u) (given book) e.sample) (book ++ e ∷ []) book (All-push P book e h (p refl)) h

pub all-corrected : (P : Entry → Type 0) (o : Steps) (book : List Entry) (e : Entry) → (is_some o ≡ true → P e) → AllByRecursion P book → AllByRecursion P (allowed (may_correct o (given book) e.sample) (map (λ f. cond (eqb f.sample e.sample) e f) book) book)
all-corrected P None book e p h = h
all-corrected P (Some u) book e p h = all-allowed P (may_correct (Some u) (given book) e.sample) (map (λ f. cond (eqb f.sample e.sample) e f) book) book (all-replaced P book e.sample e (p refl) h) h

written-angled : (steps : ℕ → Steps) (book : List Entry) (call : Call) → AllByRecursion (Angled steps) book → AllByRecursion (Angled steps) (written steps book call)
written-angled steps book (Enter e) h = all-entered (Angled steps) (steps e.word) book e (λ p. p) h
written-angled steps book (Correct e) h = all-corrected (Angled steps) (steps e.word) book e (λ p. p) h
written-angled steps book (Withdraw s) h =
    let less : List Entry = filter (λ f. not (eqb f.sample s)) book in
    all-allowed (Angled steps) (may_withdraw (given book) s) less book (all_kept_by (λ f. not (eqb f.sample s)) (Angled steps) book h) h
written-angled steps book (RowOf s) h = h
written-angled steps book (RowAt i) h = h
written-angled steps book Count h = h
written-angled steps book Totals h = h

folded-angled : (steps : ℕ → Steps) (book : List Entry) (calls : List Call) → AllByRecursion (Angled steps) book → AllByRecursion (Angled steps) (fold (written steps) book calls)
folded-angled steps book [] h = h
folded-angled steps book (call ∷ calls) h = folded-angled steps (written steps book call) calls (written-angled steps book call h)

pub standing-angled : (steps : ℕ → Steps) (calls : List Call) → AllByRecursion (Angled steps) (standing_after steps calls)
standing-angled steps calls = folded-angled steps [] calls tt
