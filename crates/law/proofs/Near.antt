-- A sheet's totals beside the exact ones.
use Rattle.std.proofs.Common.{◌≡◌, ℕ, ◌*◌, ◌%◌, ◌^◌, ◌<◌, true, List, [], ◌∷◌, map, ℤ, pos, ◌+ℤ◌, ◌*ℤ◌, is_some, Some, None, Ok, Err, fold, sym, refl, ap, ◌∙◌, subst, mod-eq_of_lt, arith}
use mathlib.Core.List.Permᴰ
use lib.Ieee.{Float}
use Rattle.std.specs.List.{AllByRecursion}
use Rattle.std.proofs.lemmas.List.{length-map}
use Rattle.exact.specs.Fraction.{Fraction, ◌≈◌, ◌⊗◌, whole, Within, within_test}
use Rattle.exact.specs.Value.{integer}
use Rattle.exact.proofs.Order.{≈-refl, ≈-sym, ≈-trans, ≡-≈, within-≈, within-by-test}
use Rattle.circle.specs.Circle.{exact_sine, exact_cosine}
use Rattle.readers.specs.Meaning.{Steps, Reading, Keeps}
use Rattle.shares.specs.Share.{sine_share, cosine_share}
use Rattle.shares.proofs.Limits.{share-sine, share-cosine, answers-read}
use Rattle.sheets.specs.declared.book.Call.{Call}
use Rattle.sheets.specs.declared.book.Entry.{Entry}
use Rattle.sheets.specs.declared.row.Row.{Row}
use Rattle.sheets.specs.declared.totals.Totals.{Totals}
use Rattle.sheets.specs.Book.{standing_after}
use Rattle.sheets.specs.Rows.{speed_of, along_of, across_of, row_totals}
use Rattle.sheets.specs.Runs.{filled, Grown}
use Rattle.sheets.specs.Sheets.{InAnyOrder, read_sine, read_cosine}
use Rattle.sheets.proofs.Sums.{length-order, all-order, sum_by_order, folded-order}
use Rattle.law.specs.Law.{plain, cms, of_steps, sum_f, exact_total, Shared, Holds}
use Rattle.law.proofs.Books.{Angled, standing-angled}
use Rattle.law.proofs.Sums.{sum_f_map, sum_by_map, folded_sum_f, int-times, times-apart, sums_apart}

-- ---- one row
nothing-near : Within (integer (pos 0)) (whole (2 ^ 30) ⊗ whole 0) (whole 33)
unfolding within_test
nothing-near = within-by-test (integer (pos 0)) (whole (2 ^ 30) ⊗ whole 0) (whole 33) tt

pub sine-kept : (o : Steps) (a : Reading) → Keeps o a → Within (integer (read_sine a)) (whole (2 ^ 30) ⊗ of_steps exact_sine o) (whole 33)
unfolding sine_share
sine-kept None (Ok a) k = absurd k
sine-kept None (Err e) k = nothing-near
sine-kept (Some u) (Ok a) k = let m : a.0 % 64 ≡ a.0 = mod-eq_of_lt k.step in rw m (share-sine a.1 a.0 k.step u 1024 (answers-read k))
sine-kept (Some u) (Err e) k = absurd k

pub cosine-kept : (o : Steps) (a : Reading) → Keeps o a → Within (integer (read_cosine a)) (whole (2 ^ 30) ⊗ of_steps exact_cosine o) (whole 33)
unfolding cosine_share
cosine-kept None (Ok a) k = absurd k
cosine-kept None (Err e) k = nothing-near
cosine-kept (Some u) (Ok a) k = let m : a.0 % 64 ≡ a.0 = mod-eq_of_lt k.step in rw m (share-cosine a.1 a.0 k.step u 1024 (answers-read k))
cosine-kept (Some u) (Err e) k = absurd k

shared-one : (o : Steps) (a : Reading) → Keeps o a → is_some o ≡ true → (x : ℕ × Float) × (a ≡ Ok x) × (read_sine a ≡ sine_share x.0 x.1) × (read_cosine a ≡ cosine_share x.0 x.1)
shared-one None a k e = absurd (let z : ◌≡◌ {A = ℕ} 0 1 = cc in omega arith)
shared-one (Some u) (Ok x) k e = (x, refl, refl, refl)
shared-one (Some u) (Err f) k e = absurd k

plain-filled : (answer : ℕ → Reading) (book : List Entry) → map plain (map (filled answer) book) ≡ book
plain-filled answer [] = refl
plain-filled answer (e ∷ book) = ap (λ l. e ∷ l) (plain-filled answer book)

-- ---- all rows
module _ (steps : ℕ → Steps) (answer : ℕ → Reading) (keeps : (w : ℕ) → w < 2 ^ 32 → Keeps (steps w) (answer w)) where
  shared-all : (book : List Entry) → AllByRecursion (λ e. e.word < 2 ^ 32) book → AllByRecursion (Angled steps) book → AllByRecursion (Shared answer) (map (filled answer) book)
  shared-all [] w h = tt
  shared-all (e ∷ book) w h = (shared-one (steps e.word) (answer e.word) (keeps e.word w.0) h.0, shared-all book w.1 h.1)

  -- the shares that `share` gives are near the exact f
  module _ (f : Fraction → Fraction) (share : Reading → ℤ) (kept : (o : Steps) (a : Reading) → Keeps o a → Within (integer (share a)) (whole (2 ^ 30) ⊗ of_steps f o) (whole 33)) where
    parts-near : (book : List Entry) → AllByRecursion (λ e. e.word < 2 ^ 32) book
        → AllByRecursion (λ e. Within (integer (pos e.speed *ℤ share (answer e.word))) (whole e.speed ⊗ (whole (2 ^ 30) ⊗ of_steps f (steps e.word))) (whole (33 * e.speed))) book
    parts-near [] w = tt
    parts-near (e ∷ book) w =
        let s : ℤ = share (answer e.word) in
        let x : Fraction = whole (2 ^ 30) ⊗ of_steps f (steps e.word) in (
          within-≈ (≈-sym (int-times e.speed s)) (≈-refl (whole e.speed ⊗ x)) (times-apart 33 e.speed (integer s) x (kept (steps e.word) (answer e.word) (keeps e.word w.0))),
          parts-near book w.1,
        )

    total-near : (part : Row → ℤ) → ((e : Entry) → part (filled answer e) ≡ share (answer e.word)) → (rows : List Row) (book : List Entry) (total : ℤ)
        → Grown answer book rows → total ≡ fold (λ a r. a +ℤ pos r.speed *ℤ part r) (pos 0) rows → Within (integer total) (exact_total f steps book) (whole (33 * cms book))
    total-near part is rows book total g e =
        let F : Row → ℤ = λ r. pos r.speed *ℤ part r in
        let a : total ≡ fold (λ a r. a +ℤ F r) (pos 0) (map (filled answer) book) = e ∙ folded-order F (pos 0) g.order in
        let b : integer total ≈ sum_f (λ e. integer (pos e.speed *ℤ share (answer e.word))) book =
        ≈-trans (≡-≈ (ap integer a)) (≈-trans (folded_sum_f F (map (filled answer) book)) (≈-trans (sum_f_map (λ r. integer (F r)) (filled answer) book) (each book))) in
        within-≈ (≈-sym b) (≈-refl (exact_total f steps book)) (sums_apart 33 (λ (e : Entry). e.speed) _ _ book (parts-near book g.words))
      where
        each : (es : List Entry) → sum_f (λ e. integer (pos e.speed *ℤ part (filled answer e))) es ≈ sum_f (λ e. integer (pos e.speed *ℤ share (answer e.word))) es
        each [] = ≈-refl (whole 0)
        each (e ∷ es) = Rattle.exact.proofs.Order.⊕-cong (≡-≈ (ap (λ z. integer (pos e.speed *ℤ z)) (is e))) (each es)

  pub holds : (calls : List Call) (rows : List Row) (totals : Totals) → Grown answer (standing_after steps calls) rows
      → totals.speed ≡ speed_of rows → totals.along ≡ along_of rows → totals.across ≡ across_of rows → Holds steps answer calls rows totals
  holds calls rows totals g s a c =
      let book : List Entry = standing_after steps calls in
      let o : InAnyOrder (map plain rows) book = subst (InAnyOrder (map plain rows)) (plain-filled answer book) (Permᴰ.map plain g.order) in
      record {
        order = o;
        count = sym (length-map rows plain) ∙ length-order o;
        speed = s ∙ sym (sum_by_map (λ (e : Entry). e.speed) plain rows) ∙ sum_by_order (λ (e : Entry). e.speed) o;
        shares = all-order (Shared answer) (Permᴰ.symm g.order) (shared-all book g.words (standing-angled steps calls));
        along = total-near exact_cosine read_cosine cosine-kept (λ r. r.cosine) (λ e. refl) rows book totals.along g a;
        across = total-near exact_sine read_sine sine-kept (λ r. r.sine) (λ e. refl) rows book totals.across g c;
      }

  -- totals that are kept of the rows
  pub kept_holds : (calls : List Call) (rows : List Row) (totals : Totals) → Grown answer (standing_after steps calls) rows → totals ≡ row_totals rows → Holds steps answer calls rows totals
  kept_holds calls rows totals g k = holds calls rows totals g (ap (λ (t : Totals). t.speed) k) (ap (λ (t : Totals). t.along) k) (ap (λ (t : Totals). t.across) k)
