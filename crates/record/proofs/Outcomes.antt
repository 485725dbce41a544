-- What the outcome of a record means.
use Rattle.std.proofs.Common.{◌≡◌, ℕ, zero, suc, ◌+◌, ◌-◌, ◌*◌, ◌^◌, ◌<◌, ◌≤◌, Bool, true, false, cond, not, eqb, ltb, ◌⊎◌, List, [], ◌∷◌, ◌++◌, map, length, get_or, slice_index, take, drop, Ok, Err, fold, filter, Result, sym, refl, ap, ◌∙◌, subst, inl, inr, append_assoc, arith, lit<}
use mathlib.Core.List.Permᴰ
use Rattle.std.specs.List.{AllByRecursion}
use Rattle.std.proofs.ByRecursion.{all_kept_by}
use Rattle.std.proofs.lemmas.List.{get_or-drop}
use Rattle.std.proofs.lemmas.Bool.{ltb-true, ltb-false}
use Rattle.readers.specs.Meaning.{Steps}
use Rattle.sheets.specs.declared.book.Call.{Call}
use Rattle.sheets.specs.declared.book.Call.TheVariants.{Enter, Correct, Withdraw, RowOf, RowAt, Count, Totals}
use Rattle.sheets.specs.declared.book.Entry.{Entry}
use Rattle.sheets.specs.declared.fault.SheetFault.{SheetFault}
use Rattle.sheets.specs.declared.row.Row.{Row}
use Rattle.sheets.specs.Book.{asked, given, written, may_withdraw, standing_after}
use Rattle.sheets.specs.Rows.{speed_of, along_of, across_of}
use Rattle.sheets.specs.Runs.{filled}
use Rattle.law.proofs.Books.{all-allowed, all-entered, all-corrected}
use Rattle.law.proofs.Near.{holds}
use Rattle.record.specs.declared.edition.Edition.{Edition}
use Rattle.record.specs.declared.edition.Mount.{Mount}
use Rattle.record.specs.declared.fault.Cause.{Cause}
use Rattle.record.specs.declared.fault.Cause.TheVariants.{Buffer, TooLong, Short, Refused}
use Rattle.record.specs.declared.fault.RecordFault.{RecordFault}
use Rattle.record.specs.declared.item.Item.{Item}
use Rattle.record.specs.declared.item.Item.TheVariants as item
use Rattle.record.specs.declared.state.Kind.{Kind}
use Rattle.record.specs.declared.state.Kind.TheVariants as kind
use Rattle.record.specs.declared.state.State.{State}
use Rattle.record.specs.declared.state.State.TheVariants as state
use Rattle.record.specs.Refusals.{located}
use Rattle.record.specs.Fields.{and_then, Cut, cut, edition_from, mount_from, entry_of, item_of, Read, field_at}
use Rattle.record.specs.declared.fields.Field.{Field}
use Rattle.record.specs.Modules.{under-keeps}
use Rattle.record.specs.Record.{saying, following, fields, fields_of, lifted, put, made, replay, edition_of, mount_of, tally_of, record_tally}
use Rattle.record.specs.Page.{outcome_of}
use Rattle.record.specs.Outcome.{steps_of, answer_of, calling, calls_in, Stands, Yes, after, Passed, No, FirstNo, Means}
use Rattle.record.proofs.Cuts.{field-whole}

-- ---- one field
-- what a call comes to, by the book's answer
called : (steps : ℕ → Steps) (book : List Entry) (call : Call) → (asked steps (given book) call ≡ Ok tt) ⊎ ((e : SheetFault) × (asked steps (given book) call ≡ Err e))
called steps book call =
    let go : (q : Result (Unit {0}) SheetFault) → asked steps (given book) call ≡ q → (asked steps (given book) call ≡ Ok tt) ⊎ ((e : SheetFault) × (asked steps (given book) call ≡ Err e)) =
    λ q. elim q as (λ q. asked steps (given book) call ≡ q → (asked steps (given book) call ≡ Ok tt) ⊎ ((e : SheetFault) × (asked steps (given book) call ≡ Err e))) [ Ok u ↦ λ h. inl h | Err e ↦ λ h. inr (e, h) ] in
    go (asked steps (given book) call) refl

-- a field gets a yes and leaves the next book, or a no and its cause
pub record Passes (steps : ℕ → Steps) (book : List Entry) (f : Field) : Type 0 where
  pub says : Item
  pub said : f.said ≡ Ok says
  pub yes' : Yes steps book says
  pub is : made steps book f ≡ Ok (after steps book says)

pub record Fails (steps : ℕ → Steps) (book : List Entry) (f : Field) : Type 0 where
  pub cause : Cause
  pub no' : No steps book f cause
  pub is : made steps book f ≡ Err (record { cause = cause; offset = f.at })

item-made : (steps : ℕ → Steps) (book : List Entry) (f : Field) (i : Item) → f.said ≡ Ok i → Passes steps book f ⊎ Fails steps book f
item-made steps book f (item.Edition e) h = inl (record { says = item.Edition e; said = h; yes' = tt; is = ap (λ q. located f.at (and_then q (put steps book))) h })
item-made steps book f (item.Mount m) h = inl (record { says = item.Mount m; said = h; yes' = tt; is = ap (λ q. located f.at (and_then q (put steps book))) h })
item-made steps book f (item.Put call) h =
    let put-by : Result (Unit {0}) SheetFault → Result (List Entry) RecordFault = λ q. located f.at (and_then (lifted q) (λ _. Ok (written steps book call))) in
    elim (called steps book call) [
      | inl y ↦ inl (record { says = item.Put call; said = h; yes' = y; is = ap (λ q. located f.at (and_then q (put steps book))) h ∙ ap put-by y })
      | inr n ↦ inr (record { cause = Refused n.0; no' = inr (call, n.0, h, n.1, refl); is = ap (λ q. located f.at (and_then q (put steps book))) h ∙ ap put-by n.1 })
    ]

pub field-made : (steps : ℕ → Steps) (book : List Entry) (f : Field) → Passes steps book f ⊎ Fails steps book f
field-made steps book f =
    let go : (q : Result Item Cause) → f.said ≡ q → Passes steps book f ⊎ Fails steps book f =
    λ q. elim q as (λ q. f.said ≡ q → Passes steps book f ⊎ Fails steps book f) [ Ok i ↦ λ h. item-made steps book f i h | Err c ↦ λ h. inr (record { cause = c; no' = inl h; is = ap (λ q. located f.at (and_then q (put steps book))) h }) ] in
    go f.said refl

-- ---- all fields
passed-more : (steps : ℕ → Steps) (start book : List Entry) (fs : List Field) (f : Field) → Passed steps start fs book → (P : Passes steps book f) → Passed steps start (fs ++ f ∷ []) (after steps book P.says)
passed-more steps start book [] f p P = (P.says, P.said, subst (λ b. Yes steps b P.says) (sym p) P.yes', ap (λ b. after steps b P.says) p)
passed-more steps start book (g ∷ fs) f p P = (p.0, p.1, p.2, passed-more steps (after steps start p.0) book fs f p.3 P)

push-cons : (before : List Field) (f : Field) (fs : List Field) → (before ++ f ∷ []) ++ fs ≡ before ++ f ∷ fs
push-cons before f fs = append_assoc before (f ∷ []) fs

err-same : {X : Type 0} {d e : RecordFault} → ◌≡◌ {A = Result X RecordFault} (Err d) (Err e) → d ≡ e
err-same h = cc

ok_same : {x y : List Entry} → ◌≡◌ {A = Result (List Entry) RecordFault} (Ok x) (Ok y) → x ≡ y
ok_same h = cc

-- the first no decides
pub first-no : (steps : ℕ → Steps) (before : List Field) (book : List Entry) (fs : List Field) (e : RecordFault) → Passed steps [] before book → replay steps book fs ≡ Err e → FirstNo steps (before ++ fs) e
unfolding replay
first-no steps before book [] e p h = absurd (let z : ◌≡◌ {A = ℕ} 0 1 = cc in omega arith)
first-no steps before book (f ∷ fs) e p h =
    elim (field-made steps book f) [
      | inl P ↦ subst (λ l. FirstNo steps l e) (push-cons before f fs) (first-no steps (before ++ f ∷ []) (after steps book P.says) fs e (passed-more steps [] book before f p P) (sym (ap (λ q. and_then q (λ b. replay steps b fs)) P.is) ∙ h))
      | inr F ↦
          let d : record { cause = F.cause; offset = f.at } ≡ e = err-same (sym (ap (λ q. and_then q (λ b. replay steps b fs)) F.is) ∙ h) in
          record {
            before = before;
            decides = f;
            behind = fs;
            split = refl;
            book = book;
            passed = p;
            no' = subst (No steps book f) (ap (λ (x : RecordFault). x.cause) d) F.no';
            place = sym (ap (λ (x : RecordFault). x.offset) d);
          }
    ]

-- where all got a yes, the book is that of the calls
after-calls : (steps : ℕ → Steps) (book : List Entry) (i : Item) (calls : List Call) → fold (written steps) book (calling (Ok i) calls) ≡ fold (written steps) (after steps book i) calls
after-calls steps book (item.Edition e) calls = refl
after-calls steps book (item.Mount m) calls = refl
after-calls steps book (item.Put call) calls = refl

pub all_yes : (steps : ℕ → Steps) (book : List Entry) (fs : List Field) (end : List Entry) → replay steps book fs ≡ Ok end → fold (written steps) book (calls_in fs) ≡ end
unfolding replay
all_yes steps book [] end h = ok_same h
all_yes steps book (f ∷ fs) end h =
    elim (field-made steps book f) [
      | inl P ↦ ap (λ q. fold (written steps) book (calling q (calls_in fs))) P.said ∙ after-calls steps book P.says (calls_in fs) ∙ all_yes steps (after steps book P.says) fs end (sym (ap (λ q. and_then q (λ b. replay steps b fs)) P.is) ∙ h)
      | inr F ↦ absurd (let q : Err (record { cause = F.cause; offset = f.at }) ≡ Ok end = sym (ap (λ q. and_then q (λ b. replay steps b fs)) F.is) ∙ h in let z : ◌≡◌ {A = ℕ} 0 1 = cc in omega arith)
    ]

-- ---- every word has 32 bits
Bytes : List ℕ → Type 0
Bytes l = (i : ℕ) → get_or l i 0 < 256

bytes_drop : (n : ℕ) (l : List ℕ) → Bytes l → Bytes (drop n l)
unfolding Bytes
bytes_drop n l h i = subst (λ x. x < 256) (sym (get_or-drop n l i 0)) (h (n + i))

bytes_take : (n : ℕ) (l : List ℕ) → Bytes l → Bytes (take n l)
unfolding Bytes
bytes_take zero l h i = lit< tt
bytes_take (suc n) [] h i = lit< tt
bytes_take (suc n) (x ∷ l) h zero = h 0
bytes_take (suc n) (x ∷ l) h (suc i) = bytes_take n l (λ j. h (suc j)) i

-- the word of an entry
abbrev Fit : Entry → Type 0
Fit e = e.word < 2 ^ 32

-- of a call, and of what a field says
CallFits : Call → Type 0
CallFits (Enter e) = Fit e
CallFits (Correct e) = Fit e
CallFits (Withdraw s) = Unit {0}
CallFits (RowOf s) = Unit {0}
CallFits (RowAt i) = Unit {0}
CallFits Count = Unit {0}
CallFits Totals = Unit {0}

Fits : Result Item Cause → Type 0
unfolding CallFits
Fits (Ok (item.Edition e)) = Unit {0}
Fits (Ok (item.Mount m)) = Unit {0}
Fits (Ok (item.Put call)) = CallFits call
Fits (Err c) = Unit {0}

entry-fits : (body : List ℕ) → Bytes body → Fit (entry_of body)
unfolding Bytes
entry-fits body h = let a = h 4 in let b = h 5 in let c = h 6 in let d = h 7 in omega arith

-- an edition and a mount have no word
edition-fits : (q : Result Edition Cause) → Fits (and_then q (λ e. Ok (item.Edition e)))
unfolding Fits
edition-fits (Ok e) = tt
edition-fits (Err c) = tt

mount-fits : (q : Result Mount Cause) → Fits (and_then q (λ m. Ok (item.Mount m)))
unfolding Fits
mount-fits (Ok m) = tt
mount-fits (Err c) = tt

item-fits : (k : Kind) (body : List ℕ) → Bytes body → Fits (item_of k body)
unfolding Fits
item-fits kind.Edition body h = edition-fits (edition_from (slice_index body 0))
item-fits kind.Mount body h = mount-fits (mount_from (slice_index body 0) (slice_index body 1))
item-fits kind.Enter body h = entry-fits body h
item-fits kind.Withdraw body h = tt
item-fits kind.Correct body h = entry-fits body h

cut-bytes : (bytes : List ℕ) (c : Cut) → cut bytes ≡ Ok c → Bytes bytes → Bytes c.body × Bytes c.rest
cut-bytes [] c e h = absurd (let z : ◌≡◌ {A = ℕ} 0 1 = cc in omega arith)
cut-bytes (t ∷ []) c e h = absurd (let z : ◌≡◌ {A = ℕ} 0 1 = cc in omega arith)
cut-bytes (t ∷ hi ∷ []) c e h = absurd (let z : ◌≡◌ {A = ℕ} 0 1 = cc in omega arith)
cut-bytes (t ∷ hi ∷ lo ∷ bs) c e h =
    let n : ℕ = 256 * hi + lo in
    let y : Cut = record { tag = t; body = take n bs; rest = drop n bs } in
    let all : Bytes bs = bytes_drop 3 (t ∷ hi ∷ lo ∷ bs) h in
    let go : (b : Bool) → cond b (Err Short) (Ok y) ≡ Ok c → Bytes c.body × Bytes c.rest =
    λ b. elim b as (λ b. cond b (Err Short) (Ok y) ≡ Ok c → Bytes c.body × Bytes c.rest)
    [ true ↦ λ q. absurd (let z : ◌≡◌ {A = ℕ} 0 1 = cc in omega arith) | false ↦ λ q. let p : y ≡ c = cc in subst (λ z. Bytes z.body × Bytes z.rest) p (bytes_take n bs all, bytes_drop n bs all) ] in
    go (ltb (length bs) n) e

read_fits : (s : State) (bytes : List ℕ) (r : Read) → field_at s bytes ≡ Ok r → Bytes bytes → Fits (Ok r.item) × Bytes r.rest
read_fits s bytes r e h =
    let w = field-whole s bytes r e in
    let c = cut-bytes bytes w.piece w.is_cut h in
    (subst Fits w.is-item (item-fits w.kind.0 w.piece.body c.0), subst Bytes w.is-rest c.1)

fields_fit : (n : ℕ) (s : State) (total : ℕ) (bytes : List ℕ) → Bytes bytes → AllByRecursion (λ f. Fits f.said) (fields n s total bytes)
unfolding fields Fits
fields_fit zero s total bytes h = tt
fields_fit (suc n) s total [] h = tt
fields_fit (suc n) s total (b ∷ bs) h =
    let go : (q : Result Read Cause) → field_at s (b ∷ bs) ≡ q → AllByRecursion (λ f. Fits f.said) (record { at = total - length (b ∷ bs); said = saying q } ∷ following q (λ f. fields n f.state total f.rest)) =
    λ q. elim q as (λ q. field_at s (b ∷ bs) ≡ q → AllByRecursion (λ f. Fits f.said) (record { at = total - length (b ∷ bs); said = saying q } ∷ following q (λ f. fields n f.state total f.rest)))
    [ Ok r ↦ λ e. let p = read_fits s (b ∷ bs) r e h in (p.0, fields_fit n r.state total r.rest p.1) | Err c ↦ λ e. (tt, tt) ] in
    go (field_at s (b ∷ bs)) refl

written-fit : (steps : ℕ → Steps) (book : List Entry) (call : Call) → CallFits call → AllByRecursion Fit book → AllByRecursion Fit (written steps book call)
unfolding CallFits
written-fit steps book (Enter e) c h = all-entered Fit (steps e.word) book e (λ _. c) h
written-fit steps book (Correct e) c h = all-corrected Fit (steps e.word) book e (λ _. c) h
written-fit steps book (Withdraw s) c h = all-allowed Fit (may_withdraw (given book) s) (filter (λ f. not (eqb f.sample s)) book) book (all_kept_by (λ f. not (eqb f.sample s)) Fit book h) h
written-fit steps book (RowOf s) c h = h
written-fit steps book (RowAt i) c h = h
written-fit steps book Count c h = h
written-fit steps book Totals c h = h

calls-fit : (steps : ℕ → Steps) (book : List Entry) (q : Result Item Cause) (fs : List Field) → Fits q → ((b : List Entry) → AllByRecursion Fit b → AllByRecursion Fit (fold (written steps) b (calls_in fs))) → AllByRecursion Fit book → AllByRecursion Fit (fold (written steps) book (calling q (calls_in fs)))
unfolding Fits
calls-fit steps book (Ok (item.Edition e)) fs f rest h = rest book h
calls-fit steps book (Ok (item.Mount m)) fs f rest h = rest book h
calls-fit steps book (Ok (item.Put call)) fs f rest h = rest (written steps book call) (written-fit steps book call f h)
calls-fit steps book (Err c) fs f rest h = rest book h

standing-fit : (steps : ℕ → Steps) (fs : List Field) → AllByRecursion (λ f. Fits f.said) fs → (book : List Entry) → AllByRecursion Fit book → AllByRecursion Fit (fold (written steps) book (calls_in fs))
standing-fit steps [] a book h = h
standing-fit steps (f ∷ fs) a book h = calls-fit steps book f.said fs a.0 (standing-fit steps fs a.1) h

-- ---- the whole
stands : (bytes : List ℕ) (book : List Entry) → Bytes bytes → replay (steps_of bytes) [] (fields_of bytes) ≡ Ok book → Stands bytes (tally_of (edition_of (fields_of bytes)) (answer_of bytes) book)
stands bytes book h e =
    let calls : List Call = calls_in (fields_of bytes) in
    let is : standing_after (steps_of bytes) calls ≡ book = all_yes (steps_of bytes) [] (fields_of bytes) book e in
    let words : AllByRecursion Fit (standing_after (steps_of bytes) calls) = standing-fit (steps_of bytes) (fields_of bytes) (fields_fit (length bytes) state.Edition (length bytes) bytes h) [] tt in
    let rs : List Row = map (filled (answer_of bytes)) (standing_after (steps_of bytes) calls) in
    let same : (b : List Entry) → standing_after (steps_of bytes) calls ≡ b → Stands bytes (tally_of (edition_of (fields_of bytes)) (answer_of bytes) b) =
    λ b q. subst (λ z. Stands bytes (tally_of (edition_of (fields_of bytes)) (answer_of bytes) z)) q
    (record {
      edition = refl;
      rows = refl;
      totals = holds (steps_of bytes) (answer_of bytes) (λ w _. under-keeps (mount_of (fields_of bytes)) (edition_of (fields_of bytes)) w) calls rs (record { speed = speed_of rs; along = along_of rs; across = across_of rs }) (record { order = Permᴰ.refl rs; words = words }) refl refl refl;
    }) in
    same book is

record-means : (room : ℕ) (bytes : List ℕ) → 96 ≤ room → length bytes ≤ 65536 → Bytes bytes → Means room bytes (record_tally bytes)
unfolding record_tally
record-means room [] r l h = inr (inr (r, l, inl (refl, refl)))
record-means room (b ∷ bs) r l h =
    let bytes : List ℕ = b ∷ bs in
    let go : (q : Result (List Entry) RecordFault) → replay (steps_of bytes) [] (fields_of bytes) ≡ q → Means room bytes (and_then q (λ book. Ok (tally_of (edition_of (fields_of bytes)) (answer_of bytes) book))) =
    λ q. elim q as (λ q. replay (steps_of bytes) [] (fields_of bytes) ≡ q → Means room bytes (and_then q (λ book. Ok (tally_of (edition_of (fields_of bytes)) (answer_of bytes) book))))
    [ Ok book ↦ λ e. (r, l, stands bytes book h e) | Err f ↦ λ e. inr (inr (r, l, inr (first-no (steps_of bytes) [] [] (fields_of bytes) f refl e))) ] in
    go (replay (steps_of bytes) [] (fields_of bytes)) refl

pub outcome-means : (room : ℕ) (bytes : List ℕ) → ((i : ℕ) → get_or bytes i 0 < 256) → Means room bytes (outcome_of room bytes)
unfolding Bytes
outcome-means room bytes h =
    let long : (t : Bool) → ltb 65536 (length bytes) ≡ t → 96 ≤ room → Means room bytes (cond t (Err (record { cause = TooLong; offset = 0 })) (record_tally bytes)) =
    λ t. elim t as (λ t. ltb 65536 (length bytes) ≡ t → 96 ≤ room → Means room bytes (cond t (Err (record { cause = TooLong; offset = 0 })) (record_tally bytes)))
    [ true ↦ λ e r. inr (inl (r, ltb-true 65536 (length bytes) e, refl)) | false ↦ λ e r. record-means room bytes r (ltb-false 65536 (length bytes) e) h ] in
    let small : (t : Bool) → ltb room 96 ≡ t → Means room bytes (cond t (Err (record { cause = Buffer; offset = 0 })) (cond (ltb 65536 (length bytes)) (Err (record { cause = TooLong; offset = 0 })) (record_tally bytes))) =
    λ t. elim t as (λ t. ltb room 96 ≡ t → Means room bytes (cond t (Err (record { cause = Buffer; offset = 0 })) (cond (ltb 65536 (length bytes)) (Err (record { cause = TooLong; offset = 0 })) (record_tally bytes))))
    [ true ↦ λ e. inl (ltb-true room 96 e, refl) | false ↦ λ e. long (ltb 65536 (length bytes)) refl (ltb-false room 96 e) ] in
    small (ltb room 96) refl
