-- From the highest coefficient down, over a list of them.
use Rattle.std.proofs.Common.{◌≡◌, ℕ, ◌-◌, ◌≤◌, List, [], ◌∷◌, ◌++◌, length, take, get_or, map, reverse, fold, refl, sym, ap, ◌∙◌, arith}
use Rattle.std.proofs.lemmas.List.{reverse-append}
use Rattle.std.proofs.lemmas.List.Sums.{fold-append}
use Rattle.forms.specs.Polyeval.{horner}

-- a list is what stands before its last item, and that item
ends : {A : Type 0} (a : A) (l : List A) (d : A) → take (length l) (a ∷ l) ++ get_or (a ∷ l) (length l) d ∷ [] ≡ a ∷ l
ends a [] d = refl
ends a (b ∷ l) d = ap (λ z. a ∷ z) (ends b l d)

-- the coefficients are made of the list's items
module _ {A B : Type 0} (mla : A → A → A → A) (none x : A) (made : B → A) where
  -- one coefficient more, below the sum s
  abbrev pub onto : A → B → A
  onto s b = mla x s (made b)

  -- the lowest coefficient comes last
  next_below : (a : B) (l : List B) (h : B) → horner mla none x (map made (a ∷ (l ++ h ∷ []))) ≡ onto (horner mla none x (map made (l ++ h ∷ []))) a
  next_below a [] h = refl
  next_below a (b ∷ l) h = refl

  -- the highest apart from the others
  by_fold : (l : List B) (h : B) → fold onto (made h) (reverse l) ≡ horner mla none x (map made (l ++ h ∷ []))
  by_fold [] h = refl
  by_fold (a ∷ l) h = ap (fold onto (made h)) (reverse-append (a ∷ []) l) ∙ fold-append onto (made h) (reverse l) (a ∷ []) ∙ ap (λ s. onto s a) (by_fold l h) ∙ sym (next_below a l h)

  -- of a list that is not empty
  at : (a : B) (l : List B) (h : B) (n : ℕ) → n ≡ length l → h ≡ get_or (a ∷ l) n h → fold onto (made h) (reverse (take n (a ∷ l))) ≡ horner mla none x (map made (a ∷ l))
  at a l h n k e = by_fold (take n (a ∷ l)) h ∙ ap (λ z. horner mla none x (map made z)) (ap (λ z. take n (a ∷ l) ++ z ∷ []) e ∙ ap (λ m. take m (a ∷ l) ++ get_or (a ∷ l) m h ∷ []) k ∙ ends a l h)

  -- as the code splits the list
  pub split_made : (xs : List B) (h : B) → 1 ≤ length xs → h ≡ get_or xs (length xs - 1) h → fold onto (made h) (reverse (take (length xs - 1) xs)) ≡ horner mla none x (map made xs)
  split_made [] h n e = absurd (omega arith)
  split_made (a ∷ l) h n e = at a l h (length (a ∷ l) - 1) (omega arith) e
