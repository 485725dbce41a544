-- The totals of two sheets of the same motion.
use Rattle.std.proofs.Common.{◌≡◌, ℕ, zero, suc, ◌+◌, ◌*◌, ◌^◌, ◌<◌, true, false, not, eqb, ◌⊎◌, List, [], ◌∷◌, map, length, Some, None, sym, refl, ap, ◌∙◌, subst, inl, inr, arith}
use mathlib.Core.List.Permᴰ
use Rattle.std.specs.List.{ContainsAt as Has, HoldsAt, AllByRecursion}
use Rattle.std.proofs.lemmas.List.Sums.{sum_by-cons}
use Rattle.std.proofs.lemmas.Bool.{eq-eqb, or_left, or_right, and_parts, not-true}
use Rattle.exact.specs.Fraction.{Fraction, ◌⊑◌, ◌⊕◌, ◌⊗◌, whole, Size, Within, leq, size_test}
use Rattle.exact.proofs.Order.{≈-refl, ≈-sym, ⊗-comm, by-test, size-by-test, triangle, within-⊑, within-≈, within-sym, within-mul-right}
use Rattle.circle.specs.Circle.{step, exact_sine, exact_cosine, SteadyAlike}
use Rattle.circle.proofs.Mirror.{alike-sine, alike-cosine}
use Rattle.readers.specs.Meaning.{Steps}
use Rattle.sheets.specs.declared.book.Call.{Call}
use Rattle.sheets.specs.declared.book.Entry.{Entry}
use Rattle.sheets.specs.declared.row.Row.{Row}
use Rattle.sheets.specs.Rows.{samples, among, distinct}
use Rattle.sheets.specs.Book.{given, standing_after}
use Rattle.sheets.specs.Sheets.{InAnyOrder}
use Rattle.sheets.proofs.Orders.{distinct-order}
use Rattle.sheets.proofs.Sums.{sum_by_order}
use Rattle.law.specs.Law.{plain, cms, of_steps, sum_f, exact_total, Agree, Matched, SameMotion}
use Rattle.law.proofs.Sums.{sum_f_order, times-apart, add_apart, none_apart}

-- ---- one row
scale-size : Size (whole (2 ^ 30)) (whole (2 ^ 30))
unfolding size_test
scale-size = size-by-test (whole (2 ^ 30)) (whole (2 ^ 30)) tt

agree-apart : (f : Fraction → Fraction) → SteadyAlike f → (o p : Steps) → Agree o p → Within (whole (2 ^ 30) ⊗ of_steps f o) (whole (2 ^ 30) ⊗ of_steps f p) (whole 805)
unfolding step leq
-- 2 ^ 30 × (2 ^ -17 × step + 2 ^ -70) is at most 805
agree-apart f steady (Some u) (Some v) a = within-⊑ (by-test tt) (within-≈ (⊗-comm (f u) (whole (2 ^ 30))) (⊗-comm (f v) (whole (2 ^ 30))) (within-mul-right (steady u v _ a) scale-size))
agree-apart f steady (Some u) None a = absurd a
agree-apart f steady None (Some v) a = absurd a
agree-apart f steady None None a = absurd a

-- ---- one of a list
In : {X : Type 0} → X → List X → Type 0
In x [] = ⊥
In x (y ∷ ys) = (x ≡ y) ⊎ In x ys

has_in : {X : Type 0} (x : X) (xs : List X) (k : ℕ) → k < length xs → HoldsAt (λ y. y ≡ x) xs k → In x xs
unfolding In
has_in x [] k h a = absurd (omega arith)
has_in x (y ∷ ys) zero h a = inl (sym (a x))
has_in x (y ∷ ys) (suc k) h a = inr (has_in x ys k (omega arith) a)

all_in : {X : Type 0} (P : X → Type 0) (xs : List X) → AllByRecursion P xs → (x : X) → In x xs → P x
unfolding In
all_in P [] h x i = absurd i
all_in P (y ∷ ys) h x (inl p) = subst P (sym p) h.0
all_in P (y ∷ ys) h x (inr i) = all_in P ys h.1 x i

in_order : {X : Type 0} (x : X) {xs ys : List X} → InAnyOrder xs ys → In x xs → In x ys
unfolding In
in_order x Permᴰ.nil h = h
in_order x (Permᴰ.cons e d) (inl p) = inl (p ∙ e)
in_order x (Permᴰ.cons e d) (inr h) = inr (in_order x d h)
in_order x (Permᴰ.swap e f) (inl p) = inr (inl (p ∙ e))
in_order x (Permᴰ.swap e f) (inr (inl p)) = inl (p ∙ f)
in_order x (Permᴰ.swap e f) (inr (inr h)) = inr (inr h)
in_order x (Permᴰ.trans d e) h = in_order x e (in_order x d h)

-- it comes first in another order
out : {X : Type 0} (x : X) (xs : List X) → In x xs → (ys : List X) × InAnyOrder xs (x ∷ ys)
unfolding In
out x [] h = absurd h
out x (y ∷ ys) (inl p) = (ys, Permᴰ.cons (sym p) (Permᴰ.refl ys))
out x (y ∷ ys) (inr h) = let r = out x ys h in (y ∷ r.0, Permᴰ.trans (Permᴰ.cons refl r.1) (Permᴰ.swap refl refl))

in_given : (e : Entry) (es : List Entry) → In e es → among e.sample (given es) ≡ true
unfolding In
in_given e [] h = absurd h
in_given e (f ∷ es) (inl p) = or_left (eqb e.sample f.sample) (among e.sample (given es)) (eq-eqb e.sample f.sample (ap (λ (x : Entry). x.sample) p))
in_given e (f ∷ es) (inr h) = or_right (eqb e.sample f.sample) (among e.sample (given es)) (in_given e es h)

twice : (e f : Entry) (es : List Entry) → distinct (given (f ∷ es)) ≡ true → In e es → e.sample ≡ f.sample → ⊥
twice e f es d h q =
    let p = and_parts (not (among f.sample (given es))) (distinct (given es)) d in
    let a : true ≡ false = sym (in_given e es h) ∙ ap (λ s. among s (given es)) q ∙ not-true _ p.0 in
    let z : ◌≡◌ {A = ℕ} 0 1 = cc in omega arith

-- ---- rows that match
abbrev Partner : (ℕ → Steps) → (ℕ → Steps) → Entry → List Entry → Type 0
Partner one other e fs = (f : Entry) × In f fs × (f.sample ≡ e.sample) × (f.speed ≡ e.speed) × Agree (one e.word) (other f.word)

abbrev Pairs : (ℕ → Steps) → (ℕ → Steps) → List Entry → List Entry → Type 0
Pairs one other es fs = (e : Entry) → In e es → Partner one other e fs

pairs : (one other : ℕ → Steps) (es fs : List Entry) → Matched one other es fs → Pairs one other es fs
pairs one other es fs m e h =
    let r = all_in (λ e. (f : Entry) × Has fs f × (f.sample ≡ e.sample) × (f.speed ≡ e.speed) × Agree (one e.word) (other f.word)) es m e h in
    (r.0, has_in r.0 fs r.1.0 r.1.1 r.1.2, r.2, r.3, r.4)

rest : (one other : ℕ → Steps) (e f : Entry) (es fs : List Entry) → distinct (given (e ∷ es)) ≡ true → f.sample ≡ e.sample → Pairs one other (e ∷ es) (f ∷ fs) → Pairs one other es fs
unfolding In
rest one other e f es fs d q m x h =
    let r = m x (inr h) in
    elim r.1 as (λ _. Partner one other x fs)
    [ inl p ↦ absurd (twice x e es d h (sym r.2 ∙ ap (λ (y : Entry). y.sample) p ∙ q)) | inr k ↦ (r.0, k, r.2, r.3, r.4) ]

pairs-to : (one other : ℕ → Steps) (es fs gs : List Entry) → InAnyOrder fs gs → Pairs one other es fs → Pairs one other es gs
pairs-to one other es fs gs o m x h = let r = m x h in (r.0, in_order r.0 o r.1, r.2, r.3, r.4)

pairs-from : (one other : ℕ → Steps) (es fs gs : List Entry) → InAnyOrder es gs → Pairs one other es fs → Pairs one other gs fs
pairs-from one other es fs gs o m x h = m x (in_order x (Permᴰ.symm o) h)

-- the exact totals of two books that match
books_apart : (f : Fraction → Fraction) → SteadyAlike f → (one other : ℕ → Steps) (es fs : List Entry)
    → distinct (given es) ≡ true → distinct (given fs) ≡ true → Pairs one other es fs → Pairs other one fs es
    → (cms fs ≡ cms es) × Within (exact_total f one es) (exact_total f other fs) (whole (805 * cms es))
unfolding In
books_apart f steady one other [] [] d d' m m' = (refl, none_apart 805)
books_apart f steady one other [] (y ∷ ys) d d' m m' = absurd (m' y (inl refl)).1
books_apart f steady one other (x ∷ xs) fs d d' m m' =
    let r = m x (inl refl) in
    let y : Entry = r.0 in
    let o = out y fs r.1 in
    let ys : List Entry = o.0 in
    let dy : distinct (given (y ∷ ys)) ≡ true = sym (distinct-order (Permᴰ.map (λ (e : Entry). e.sample) o.1)) ∙ d' in
    let ih = books_apart f steady one other xs ys (and_parts (not (among x.sample (given xs))) (distinct (given xs)) d).1 (and_parts (not (among y.sample (given ys))) (distinct (given ys)) dy).1
    (rest one other x y xs ys d r.2 (pairs-to one other (x ∷ xs) fs (y ∷ ys) o.1 m))
    (rest other one y x ys xs dy (sym r.2) (pairs-from other one fs (x ∷ xs) (y ∷ ys) o.1 m')) in
    let F : Entry → Fraction = λ e. whole e.speed ⊗ (whole (2 ^ 30) ⊗ of_steps f (one e.word)) in
    let G : Entry → Fraction = λ e. whole e.speed ⊗ (whole (2 ^ 30) ⊗ of_steps f (other e.word)) in
    let a : Within (F x) (G y) (whole (805 * x.speed)) =
    subst (λ n. Within (F x) (whole n ⊗ (whole (2 ^ 30) ⊗ of_steps f (other y.word))) (whole (805 * x.speed))) (sym r.3)
    (times-apart 805 x.speed (whole (2 ^ 30) ⊗ of_steps f (one x.word)) (whole (2 ^ 30) ⊗ of_steps f (other y.word)) (agree-apart f steady (one x.word) (other y.word) r.4)) in
    let b = add_apart 805 x.speed (cms xs) (cms (x ∷ xs)) (F x) (G y) (sum_f F xs) (sum_f G ys) (sum_by-cons (λ (e : Entry). e.speed) x xs) a ih.1 in (
      sum_by_order (λ (e : Entry). e.speed) o.1 ∙ sum_by-cons (λ (e : Entry). e.speed) y ys ∙ ap (λ n. n + cms ys) r.3 ∙ ap (λ n. x.speed + n) ih.0 ∙ sym (sum_by-cons (λ (e : Entry). e.speed) x xs),
      within-≈ (≈-refl (sum_f F (x ∷ xs))) (≈-sym (sum_f_order G o.1)) b,
    )

-- ---- the totals: 33 + 805 + 33
three : (v w : ℕ) → w ≡ v → (whole (33 * v) ⊕ whole (805 * v)) ⊕ whole (33 * w) ⊑ whole (871 * v)
three v w e = record { le = omega arith }

pub book-distinct : (rows : List Row) (book : List Entry) → InAnyOrder (map plain rows) book → distinct (samples rows) ≡ true → distinct (given book) ≡ true
book-distinct rows book o d = sym (distinct-order (subst (λ l. InAnyOrder l (given book)) (again rows) (Permᴰ.map (λ (e : Entry). e.sample) o))) ∙ d
  where
    again : (rs : List Row) → given (map plain rs) ≡ samples rs
    again [] = refl
    again (r ∷ rs) = ap (λ l. r.sample ∷ l) (again rs)

module _ (one : ℕ → Steps) (calls : List Call) (other : ℕ → Steps) (others : List Call) (d : distinct (given (standing_after one calls)) ≡ true) (d' : distinct (given (standing_after other others)) ≡ true) (same : SameMotion one calls other others) (a b : Fraction) where
  abbrev es : List Entry
  es = standing_after one calls

  abbrev fs : List Entry
  fs = standing_after other others

  totals-apart : (f : Fraction → Fraction) → SteadyAlike f → Within a (exact_total f one es) (whole (33 * cms es)) → Within b (exact_total f other fs) (whole (33 * cms fs)) → Within a b (whole (871 * cms es))
  totals-apart f steady h k =
      let q = books_apart f steady one other es fs d d' (pairs one other es fs same.there) (pairs other one fs es same.back) in
      within-⊑ (three (cms es) (cms fs) q.0) (triangle (triangle h q.1) (within-sym k))

  pub along-apart : Within a (exact_total exact_cosine one es) (whole (33 * cms es)) → Within b (exact_total exact_cosine other fs) (whole (33 * cms fs)) → Within a b (whole (871 * cms es))
  along-apart = totals-apart exact_cosine alike-cosine

  pub across-apart : Within a (exact_total exact_sine one es) (whole (33 * cms es)) → Within b (exact_total exact_sine other fs) (whole (33 * cms fs)) → Within a b (whole (871 * cms es))
  across-apart = totals-apart exact_sine alike-sine
