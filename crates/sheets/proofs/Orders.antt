-- Lists in another order.
use Rattle.std.proofs.Common.{◌≡◌, ℕ, zero, suc, ◌-◌, ◌<◌, Bool, true, false, cond, not, ◌&&◌, ◌||◌, eqb, List, [], ◌∷◌, length, get_or, take, set, filter, sym, refl, ap, ◌∙◌, subst, arith}
use mathlib.Core.List.Permᴰ
use mathlib.Core.List.{Permᴰ}
use Rattle.std.proofs.lemmas.Bool.{eqb-true, eqb-false, eq-eqb, ne_eqb, or_parts, and_parts, not-true, not_from_false, not_from_true, cond-true, cond-false}
use Rattle.std.proofs.lemmas.List.{get_or-map, length-map}
use Rattle.shares.specs.declared.share.Shares.{Shares}
use Rattle.sheets.specs.declared.book.Entry.{Entry}
use Rattle.sheets.specs.declared.row.Row.{Row}
use Rattle.sheets.specs.Rows.{among, distinct, samples}
use Rattle.sheets.specs.Sheets.{InAnyOrder, corrected, without}
use Rattle.std.specs.List.{swap_remove}
use Rattle.sheets.specs.Rewrite.{entry_row, rewritten}
use Rattle.sheets.proofs.Bools.{found_among}

-- the row of the sample s is at place i
pub record Found (s : ℕ) (rows : List Row) (i : ℕ) : Type 0 where
  pub within : i < length rows
  pub same : get_or (samples rows) i 0 ≡ s

abbrev same : {X : Type 0} {xs ys : List X} → xs ≡ ys → InAnyOrder xs ys
same {X} {xs} {ys} e = subst (λ l. InAnyOrder xs l) e (Permᴰ.refl xs)

pub kept-by-order : {X : Type 0} (p : X → Bool) {xs ys : List X} → InAnyOrder xs ys → InAnyOrder (filter p xs) (filter p ys)
kept-by-order p Permᴰ.nil = Permᴰ.nil
kept-by-order p (Permᴰ.cons {a = a} {b = b} {l₁ = l₁} {l₂ = l₂} e d) =
    let go : (t : Bool) → InAnyOrder (cond t (a ∷ filter p l₁) (filter p l₁)) (cond t (b ∷ filter p l₂) (filter p l₂)) =
    λ t. elim t as (λ t. InAnyOrder (cond t (a ∷ filter p l₁) (filter p l₁)) (cond t (b ∷ filter p l₂) (filter p l₂))) [ true ↦ Permᴰ.cons e (kept-by-order p d) | false ↦ kept-by-order p d ] in
    subst (λ t. InAnyOrder (cond (p a) (a ∷ filter p l₁) (filter p l₁)) (cond t (b ∷ filter p l₂) (filter p l₂))) (ap p e) (go (p a))
kept-by-order p (Permᴰ.swap {a = a} {b = b} {a' = a'} {b' = b'} {l = l} e f) =
    let k : List _ = filter p l in
    let In : Bool → Bool → List _ = λ s t. cond s (a ∷ cond t (b ∷ k) k) (cond t (b ∷ k) k) in
    let Out : Bool → Bool → List _ = λ s t. cond t (a' ∷ cond s (b' ∷ k) k) (cond s (b' ∷ k) k) in
    let go : (s t : Bool) → InAnyOrder (In s t) (Out s t) =
    λ s t. elim s as (λ s. InAnyOrder (In s t) (Out s t)) [
      | true ↦ elim t as (λ t. InAnyOrder (In true t) (Out true t)) [ true ↦ Permᴰ.swap e f | false ↦ Permᴰ.cons e (Permᴰ.refl k) ]
      | false ↦ elim t as (λ t. InAnyOrder (In false t) (Out false t)) [ true ↦ Permᴰ.cons f (Permᴰ.refl k) | false ↦ Permᴰ.refl k ]
    ] in
    subst (λ s. InAnyOrder (In (p a) (p b)) (Out s (p a'))) (ap p e) (subst (λ t. InAnyOrder (In (p a) (p b)) (Out (p a) t)) (ap p f) (go (p a) (p b)))
kept-by-order p (Permᴰ.trans d e) = Permᴰ.trans (kept-by-order p d) (kept-by-order p e)

or_swap : (a b c : Bool) → (a || (b || c)) ≡ (b || (a || c))
or_swap true true c = refl
or_swap true false c = refl
or_swap false true c = refl
or_swap false false c = refl

pub among-order : (s : ℕ) {xs ys : List ℕ} → InAnyOrder xs ys → among s xs ≡ among s ys
among-order s Permᴰ.nil = refl
among-order s (Permᴰ.cons {a = a} {b = b} {l₁ = l₁} {l₂ = l₂} e d) = ap (λ x. eqb s x || among s l₁) e ∙ ap (λ t. eqb s b || t) (among-order s d)
among-order s (Permᴰ.swap {a = a} {b = b} {a' = a'} {b' = b'} {l = l} e f) = or_swap (eqb s a) (eqb s b) (among s l) ∙ ap (λ x. eqb s x || (eqb s a || among s l)) f ∙ ap (λ x. eqb s a' || (eqb s x || among s l)) e
among-order s (Permᴰ.trans d e) = among-order s d ∙ among-order s e

pub eqb-sym : (a b : ℕ) → eqb a b ≡ eqb b a
eqb-sym a b = elim (eqb a b) as (λ t. eqb a b ≡ t → t ≡ eqb b a) [ true ↦ λ e. sym (eq-eqb b a (sym (eqb-true a b e))) | false ↦ λ e. sym (ne_eqb b a (λ q. eqb-false a b e (sym q))) ] refl

and-swap : (a b p q r : Bool) → ((not (a || p)) && ((not q) && r)) ≡ ((not (a || q)) && ((not p) && r))
and-swap true b p q r = refl
and-swap false b true true r = refl
and-swap false b true false r = refl
and-swap false b false true r = refl
and-swap false b false false r = refl

pub distinct-order : {xs ys : List ℕ} → InAnyOrder xs ys → distinct xs ≡ distinct ys
distinct-order Permᴰ.nil = refl
distinct-order (Permᴰ.cons {a = a} {b = b} {l₁ = l₁} {l₂ = l₂} e d) = ap (λ x. not (among x l₁) && distinct l₁) e ∙ ap (λ t. not t && distinct l₁) (among-order b d) ∙ ap (λ t. not (among b l₂) && t) (distinct-order d)
distinct-order (Permᴰ.swap {a = a} {b = b} {a' = a'} {b' = b'} {l = l} e f) =
    and-swap (eqb a b) false (among a l) (among b l) (distinct l)
    ∙ ap (λ t. not (t || among b l) && (not (among a l) && distinct l)) (eqb-sym a b)
    ∙ ap (λ x. not (eqb x a || among x l) && (not (among a l) && distinct l)) f
    ∙ ap (λ x. not (eqb a' x || among a' l) && (not (among x l) && distinct l)) e
distinct-order (Permᴰ.trans d e) = distinct-order d ∙ distinct-order e

-- the last of a list comes first
last_of : {X : Type 0} → X → List X → X
last_of x [] = x
last_of x (y ∷ ys) = last_of y ys

front : {X : Type 0} → X → List X → List X
front x [] = []
front x (y ∷ ys) = x ∷ front y ys

last-first : {X : Type 0} (x : X) (xs : List X) → InAnyOrder (x ∷ xs) (last_of x xs ∷ front x xs)
unfolding last_of front
last-first x [] = Permᴰ.refl (x ∷ [])
last-first x (y ∷ ys) = Permᴰ.trans (Permᴰ.cons refl (last-first y ys)) (Permᴰ.swap refl refl)

front-is : {X : Type 0} (x : X) (xs : List X) → take (length xs) (x ∷ xs) ≡ front x xs
unfolding front
front-is x [] = refl
front-is x (y ∷ ys) = ap (λ l. x ∷ l) (front-is y ys)

last-is : {X : Type 0} (x d : X) (xs : List X) → get_or (x ∷ xs) (length xs) d ≡ last_of x xs
unfolding last_of
last-is x d [] = refl
last-is x d (y ∷ ys) = last-is y d ys

taken_out : {X : Type 0} (x d : X) (xs : List X) (i : ℕ) → i < length (x ∷ xs) → InAnyOrder (x ∷ xs) (get_or (x ∷ xs) i d ∷ take (length xs) (set (x ∷ xs) i (last_of x xs)))
unfolding last_of
taken_out x d [] zero h = Permᴰ.refl (x ∷ [])
taken_out x d [] (suc i) h = absurd (omega arith)
taken_out x d (y ∷ ys) zero h = Permᴰ.cons refl (Permᴰ.trans (last-first y ys) (Permᴰ.cons refl (same (sym (front-is y ys)))))
taken_out x d (y ∷ ys) (suc i) h = Permᴰ.trans (Permᴰ.cons refl (taken_out y d ys i (omega arith))) (Permᴰ.swap refl refl)

pub removed-order : (rows : List Row) (i : ℕ) (d : Row) → i < length rows → InAnyOrder rows (get_or rows i d ∷ swap_remove rows i d)
removed-order [] i d h = absurd (omega arith)
removed-order (x ∷ xs) i d h =
    let e : length (x ∷ xs) - 1 ≡ length xs = omega arith in
    Permᴰ.trans (taken_out x d xs i h) (Permᴰ.cons refl (same (ap (λ z. take (length xs) (set (x ∷ xs) i z)) (sym (last-is x d xs)) ∙ ap (λ n. take n (set (x ∷ xs) i (get_or (x ∷ xs) n d))) (sym e))))

-- without a sample that is not there
pub without-none : (rows : List Row) (s : ℕ) → among s (samples rows) ≡ false → without rows s ≡ rows
without-none [] s h = refl
without-none (r ∷ rows) s h =
    let p = or_parts (eqb s r.sample) (among s (samples rows)) h in
    cond-true (not (eqb r.sample s)) _ _ (not_from_false (eqb r.sample s) (eqb-sym r.sample s ∙ p.0)) ∙ ap (λ l. r ∷ l) (without-none rows s p.1)

pub withdrawn-order : (rows : List Row) (s i : ℕ) (d : Row) → distinct (samples rows) ≡ true → Found s rows i → InAnyOrder (without rows s) (swap_remove rows i d)
withdrawn-order rows s i d u f =
    let x : Row = get_or rows i d in
    let o = removed-order rows i d f.within in
    let e : x.sample ≡ s = sym (get_or-map (λ (r : Row). r.sample) rows i d 0 f.within) ∙ f.same in
    let q = and_parts (not (among x.sample (samples (swap_remove rows i d)))) (distinct (samples (swap_remove rows i d))) (sym (distinct-order (Permᴰ.map (λ (r : Row). r.sample) o)) ∙ u) in
    let n : among s (samples (swap_remove rows i d)) ≡ false = ap (λ z. among z (samples (swap_remove rows i d))) (sym e) ∙ not-true _ q.0 in
    Permᴰ.trans (kept-by-order (λ r. not (eqb r.sample s)) o)
    (same (cond-false (not (eqb x.sample s)) _ _ (not_from_true (eqb x.sample s) (eq-eqb x.sample s e)) ∙ without-none (swap_remove rows i d) s n))

pub withdrawn-distinct : (rows : List Row) (i : ℕ) (d : Row) → i < length rows → distinct (samples rows) ≡ true → distinct (samples (swap_remove rows i d)) ≡ true
withdrawn-distinct rows i d h u =
    (and_parts (not (among (get_or rows i d).sample (samples (swap_remove rows i d)))) (distinct (samples (swap_remove rows i d))) (sym (distinct-order (Permᴰ.map (λ (r : Row). r.sample) (removed-order rows i d h))) ∙ u)).1

corrected-none : (rows : List Row) (s : ℕ) (new : Row) → among s (samples rows) ≡ false → corrected rows s new ≡ rows
corrected-none [] s new h = refl
corrected-none (r ∷ rows) s new h =
    let p = or_parts (eqb s r.sample) (among s (samples rows)) h in
    ap (λ x. x ∷ corrected rows s new) (cond-false (eqb r.sample s) new r (eqb-sym r.sample s ∙ p.0)) ∙ ap (λ l. r ∷ l) (corrected-none rows s new p.1)

pub corrected-at : (rows : List Row) (s i : ℕ) (new : Row) → distinct (samples rows) ≡ true → i < length rows → get_or (samples rows) i 0 ≡ s → set rows i new ≡ corrected rows s new
corrected-at [] s i new u h e = refl
corrected-at (r ∷ rows) s zero new u h e =
    let p = and_parts (not (among r.sample (samples rows))) (distinct (samples rows)) u in
    let n : among s (samples rows) ≡ false = ap (λ z. among z (samples rows)) (sym e) ∙ not-true _ p.0 in
    ap (λ l. new ∷ l) (sym (corrected-none rows s new n)) ∙ ap (λ x. x ∷ corrected rows s new) (sym (cond-true (eqb r.sample s) new r (eq-eqb r.sample s e)))
corrected-at (r ∷ rows) s (suc i) new u h e =
    let p = and_parts (not (among r.sample (samples rows))) (distinct (samples rows)) u in
    let l : i < length rows = omega arith in
    let a : among s (samples rows) ≡ true = found_among s (samples rows) i (omega (arith, length-map rows (λ (r : Row). r.sample))) e in
    let n : r.sample ≡ s → ⊥ = λ q. let z : true ≡ false = sym a ∙ ap (λ z. among z (samples rows)) (sym q) ∙ not-true _ p.0 in let y : ◌≡◌ {A = ℕ} 0 1 = cc in omega arith in
    ap (λ l. r ∷ l) (corrected-at rows s i new p.1 l e) ∙ ap (λ x. x ∷ corrected rows s new) (sym (cond-false (eqb r.sample s) new r (ne_eqb r.sample s n)))

pub corrected-samples : (rows : List Row) (s : ℕ) (new : Row) → new.sample ≡ s → samples (corrected rows s new) ≡ samples rows
corrected-samples [] s new e = refl
corrected-samples (r ∷ rows) s new e =
    let go : (t : Bool) → eqb r.sample s ≡ t → (cond t new r).sample ≡ r.sample =
    λ t. elim t as (λ t. eqb r.sample s ≡ t → (cond t new r).sample ≡ r.sample) [ true ↦ λ q. e ∙ sym (eqb-true r.sample s q) | false ↦ λ q. refl ] in
    ap (λ x. x ∷ samples (corrected rows s new)) (go (eqb r.sample s) refl) ∙ ap (λ l. r.sample ∷ l) (corrected-samples rows s new e)

pub rewrite-corrected : (rows : List Row) (i : ℕ) (d : Row) (x : Entry) (y : Shares) (new : Row) → distinct (samples rows) ≡ true → Found x.sample rows i → entry_row x y ≡ new → set rows i (rewritten (get_or rows i d) x y) ≡ corrected rows x.sample new
rewrite-corrected rows i d x y new u f e =
    let q : (get_or rows i d).sample ≡ x.sample = sym (get_or-map (λ (r : Row). r.sample) rows i d 0 f.within) ∙ f.same in
    ap (λ z. set rows i (record { sample = z; speed = x.speed; word = x.word; sine = y.sine; cosine = y.cosine })) q ∙ ap (set rows i) e ∙ corrected-at rows x.sample i new u f.within f.same

pub rewrite-distinct : (rows : List Row) (i : ℕ) (d : Row) (x : Entry) (y : Shares) → distinct (samples rows) ≡ true → Found x.sample rows i → distinct (samples (set rows i (rewritten (get_or rows i d) x y))) ≡ true
rewrite-distinct rows i d x y u f =
    ap (λ l. distinct (samples l)) (rewrite-corrected rows i d x y _ u f refl) ∙ ap distinct (corrected-samples rows x.sample _ refl) ∙ u
