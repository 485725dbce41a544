-- One call on a sheet and on the plain book.
use Rattle.std.proofs.Common.{◌≡◌, ℕ, ◌^◌, ◌<◌, Bool, true, false, cond, not, eqb, ltb, List, [], ◌∷◌, ◌++◌, map, length, Some, None, Ok, Err, filter, Result, sym, refl, ap, ◌∙◌, subst}
use mathlib.Core.List.Permᴰ
use Rattle.std.specs.List.{AllByRecursion}
use Rattle.std.proofs.lemmas.List.{map_push}
use Rattle.std.proofs.ByRecursion.{All-push, all_kept_by}
use Rattle.std.proofs.lemmas.Bool.{cond_both}
use Rattle.readers.specs.Meaning.{Steps, Reading}
use Rattle.sheets.specs.declared.fault.SheetFault.{SheetFault}
use Rattle.sheets.specs.declared.fault.SheetFault.TheVariants.{Taken, Absent, Full, NoPlace}
use Rattle.sheets.specs.declared.row.Row.{Row}
use Rattle.sheets.specs.declared.book.Entry.{Entry}
use Rattle.sheets.specs.declared.book.Call.{Call}
use Rattle.sheets.specs.declared.book.Call.TheVariants.{Enter, Correct, Withdraw, RowOf, RowAt, Count, Totals}
use Rattle.sheets.specs.Rows.{samples, among}
use Rattle.sheets.specs.Book.{may_enter, may_correct, may_withdraw, may_place, asked, allowed, given}
use Rattle.sheets.specs.Sheets.{InAnyOrder, corrected, without}
use Rattle.sheets.specs.Runs.{filled, Grown}
use Rattle.sheets.proofs.Orders.{kept-by-order, among-order}
use Rattle.sheets.proofs.Sums.{length-order}

filled-samples : (answer : ℕ → Reading) (book : List Entry) → samples (map (filled answer) book) ≡ given book
filled-samples answer [] = refl
filled-samples answer (e ∷ book) = ap (λ l. e.sample ∷ l) (filled-samples answer book)

pub samples-order : (answer : ℕ → Reading) (rows : List Row) (book : List Entry) → InAnyOrder rows (map (filled answer) book) → InAnyOrder (samples rows) (given book)
samples-order answer rows book o = subst (InAnyOrder (samples rows)) (filled-samples answer book) (Permᴰ.map (λ (r : Row). r.sample) o)

enter-alike : (o : Steps) (s : ℕ) {xs ys : List ℕ} → InAnyOrder xs ys → may_enter o xs s ≡ may_enter o ys s
enter-alike None s p = refl
enter-alike (Some u) s {xs} {ys} p = ap (λ t. cond t (Err Taken) (cond (ltb (length xs) 256) (Ok tt) (Err Full))) (among-order s p) ∙ ap (λ n. cond (among s ys) (Err Taken) (cond (ltb n 256) (Ok tt) (Err Full))) (length-order p)

correct_alike : (o : Steps) (s : ℕ) {xs ys : List ℕ} → InAnyOrder xs ys → may_correct o xs s ≡ may_correct o ys s
correct_alike None s p = refl
correct_alike (Some u) s p = ap (λ t. cond t (Ok tt) (Err Absent)) (among-order s p)

withdraw_alike : (s : ℕ) {xs ys : List ℕ} → InAnyOrder xs ys → may_withdraw xs s ≡ may_withdraw ys s
withdraw_alike s p = ap (λ t. cond t (Ok tt) (Err Absent)) (among-order s p)

place-alike : (i : ℕ) {xs ys : List ℕ} → InAnyOrder xs ys → may_place xs i ≡ may_place ys i
place-alike i p = ap (λ n. cond (ltb i n) (Ok tt) (Err NoPlace)) (length-order p)

-- a sheet and its book say the same to every call
pub asked-alike : (steps : ℕ → Steps) (call : Call) {xs ys : List ℕ} → InAnyOrder xs ys → asked steps xs call ≡ asked steps ys call
asked-alike steps (Enter e) p = enter-alike (steps e.word) e.sample p
asked-alike steps (Correct e) p = correct_alike (steps e.word) e.sample p
asked-alike steps (Withdraw s) p = withdraw_alike s p
asked-alike steps (RowOf s) p = withdraw_alike s p
asked-alike steps (RowAt i) p = place-alike i p
asked-alike steps Count p = refl
asked-alike steps Totals p = refl

-- correcting and withdrawing, before and after the shares are filled in
corrected-filled : (answer : ℕ → Reading) (book : List Entry) (e : Entry) → corrected (map (filled answer) book) e.sample (filled answer e) ≡ map (filled answer) (map (λ f. cond (eqb f.sample e.sample) e f) book)
corrected-filled answer [] e = refl
corrected-filled answer (f ∷ book) e =
    let go : (t : Bool) → cond t (filled answer e) (filled answer f) ≡ filled answer (cond t e f) = λ t. elim t as (λ t. cond t (filled answer e) (filled answer f) ≡ filled answer (cond t e f)) [ true ↦ refl | false ↦ refl ] in
    ap (λ x. x ∷ corrected (map (filled answer) book) e.sample (filled answer e)) (go (eqb f.sample e.sample)) ∙ ap (λ l. filled answer (cond (eqb f.sample e.sample) e f) ∷ l) (corrected-filled answer book e)

without-filled : (answer : ℕ → Reading) (book : List Entry) (s : ℕ) → without (map (filled answer) book) s ≡ map (filled answer) (filter (λ f. not (eqb f.sample s)) book)
without-filled answer [] s = refl
without-filled answer (f ∷ book) s =
    let more : List Row = without (map (filled answer) book) s in
    let kept : List Entry = filter (λ f. not (eqb f.sample s)) book in
    let go : (t : Bool) → cond t (filled answer f ∷ more) more ≡ map (filled answer) (cond t (f ∷ kept) kept) =
    λ t. elim t as (λ t. cond t (filled answer f ∷ more) more ≡ map (filled answer) (cond t (f ∷ kept) kept)) [ true ↦ ap (λ l. filled answer f ∷ l) (without-filled answer book s) | false ↦ without-filled answer book s ] in
    go (not (eqb f.sample s))

pub all-replaced : (P : Entry → Type 0) (book : List Entry) (s : ℕ) (e : Entry) → P e → AllByRecursion P book → AllByRecursion P (map (λ f. cond (eqb f.sample s) e f) book)
all-replaced P [] s e p h = h
all-replaced P (f ∷ book) s e p h = (cond_both (eqb f.sample s) e f P (λ _. p) (λ _. h.0), all-replaced P book s e p h.1)

module _ (steps : ℕ → Steps) (answer : ℕ → Reading) (book : List Entry) (rows after : List Row) (r : Result (Unit {0}) SheetFault) where
  pub enter-grown : (e : Entry) → e.word < 2 ^ 32 → r ≡ may_enter (steps e.word) (samples rows) e.sample → after ≡ allowed r (rows ++ filled answer e ∷ []) rows → Grown answer book rows
      → Grown answer (allowed (may_enter (steps e.word) (given book) e.sample) (book ++ e ∷ []) book) after
  enter-grown e fits was is old =
      let go : (q : Result (Unit {0}) SheetFault) → Grown answer (allowed q (book ++ e ∷ []) book) (allowed q (rows ++ filled answer e ∷ []) rows) =
      λ q. elim q as (λ q. Grown answer (allowed q (book ++ e ∷ []) book) (allowed q (rows ++ filled answer e ∷ []) rows)) [
        | Ok u ↦ record {
          order = subst (InAnyOrder (rows ++ filled answer e ∷ [])) (sym (map_push (filled answer) book e)) (Permᴰ.append_right (filled answer e ∷ []) old.order);
          words = All-push (λ f. f.word < 2 ^ 32) book e old.words fits;
        }
        | Err f ↦ old
      ] in
      subst (Grown answer (allowed (may_enter (steps e.word) (given book) e.sample) (book ++ e ∷ []) book)) (sym is)
      (subst (λ q. Grown answer (allowed q (book ++ e ∷ []) book) (allowed r (rows ++ filled answer e ∷ []) rows)) (was ∙ enter-alike (steps e.word) e.sample (samples-order answer rows book old.order)) (go r))

  pub correct_grown : (e : Entry) → e.word < 2 ^ 32 → r ≡ may_correct (steps e.word) (samples rows) e.sample → after ≡ allowed r (corrected rows e.sample (filled answer e)) rows → Grown answer book rows
      → Grown answer (allowed (may_correct (steps e.word) (given book) e.sample) (map (λ f. cond (eqb f.sample e.sample) e f) book) book) after
  correct_grown e fits was is old =
      let fix : List Entry → List Entry = map (λ f. cond (eqb f.sample e.sample) e f) in
      let new : List Row = corrected rows e.sample (filled answer e) in
      let go : (q : Result (Unit {0}) SheetFault) → Grown answer (allowed q (fix book) book) (allowed q new rows) =
      λ q. elim q as (λ q. Grown answer (allowed q (fix book) book) (allowed q new rows)) [
        | Ok u ↦ record {
          order = subst (InAnyOrder new) (corrected-filled answer book e) (Permᴰ.map (λ (x : Row). cond (eqb x.sample e.sample) (filled answer e) x) old.order);
          words = all-replaced (λ f. f.word < 2 ^ 32) book e.sample e fits old.words;
        }
        | Err f ↦ old
      ] in
      subst (Grown answer (allowed (may_correct (steps e.word) (given book) e.sample) (fix book) book)) (sym is)
      (subst (λ q. Grown answer (allowed q (fix book) book) (allowed r new rows)) (was ∙ correct_alike (steps e.word) e.sample (samples-order answer rows book old.order)) (go r))

  pub withdraw_grown : (s : ℕ) → r ≡ may_withdraw (samples rows) s → InAnyOrder (allowed r (without rows s) rows) after → Grown answer book rows
      → Grown answer (allowed (may_withdraw (given book) s) (filter (λ f. not (eqb f.sample s)) book) book) after
  withdraw_grown s was is old =
      let less : List Entry → List Entry = filter (λ f. not (eqb f.sample s)) in
      let go : (q : Result (Unit {0}) SheetFault) → InAnyOrder (allowed q (without rows s) rows) after → Grown answer (allowed q (less book) book) after =
      λ q. elim q as (λ q. InAnyOrder (allowed q (without rows s) rows) after → Grown answer (allowed q (less book) book) after) [
        | Ok u ↦ λ o. record {
          order = Permᴰ.trans (Permᴰ.symm o) (subst (InAnyOrder (without rows s)) (without-filled answer book s) (kept-by-order (λ (x : Row). not (eqb x.sample s)) old.order));
          words = all_kept_by (λ f. not (eqb f.sample s)) (λ f. f.word < 2 ^ 32) book old.words;
        }
        | Err f ↦ λ o. record { order = Permᴰ.trans (Permᴰ.symm o) old.order; words = old.words }
      ] in
      subst (λ q. Grown answer (allowed q (less book) book) after) (was ∙ withdraw_alike s (samples-order answer rows book old.order)) (go r is)
