-- Sums in any order.
use Rattle.std.proofs.Common.{◌≡◌, ℕ, suc, List, ◌∷◌, length, ℤ, ◌+ℤ◌, fold, sum_by, refl, ap, ◌∙◌, subst, arith}
use mathlib.Core.List.{Permᴰ}
use Rattle.std.specs.List.{AllByRecursion}
use Rattle.std.proofs.lemmas.List.Sums.{sum_by-cons}
use Rattle.std.proofs.lemmas.Int.{ints}
use Rattle.sheets.specs.Sheets.{InAnyOrder}

pub length-order : {X : Type 0} {xs ys : List X} → InAnyOrder xs ys → length xs ≡ length ys
length-order Permᴰ.nil = refl
length-order (Permᴰ.cons e d) = ap suc (length-order d)
length-order (Permᴰ.swap e f) = refl
length-order (Permᴰ.trans d e) = length-order d ∙ length-order e

pub all-order : {X : Type 0} (P : X → Type 0) {xs ys : List X} → InAnyOrder xs ys → AllByRecursion P xs → AllByRecursion P ys
all-order P Permᴰ.nil h = h
all-order P (Permᴰ.cons e d) h = (subst P e h.0, all-order P d h.1)
all-order P (Permᴰ.swap e f) h = (subst P f h.1.0, (subst P e h.0, h.1.1))
all-order P (Permᴰ.trans d e) h = all-order P e (all-order P d h)

pub sum_by_order : {X : Type 0} (f : X → ℕ) {xs ys : List X} → InAnyOrder xs ys → sum_by f xs ≡ sum_by f ys
sum_by_order f Permᴰ.nil = refl
sum_by_order f (Permᴰ.cons {a = a} {b = b} {l₁ = l₁} {l₂ = l₂} e d) = omega (arith, sum_by-cons f a l₁, sum_by-cons f b l₂, ap f e, sum_by_order f d)
sum_by_order f (Permᴰ.swap {a = a} {b = b} {a' = a'} {b' = b'} {l = l} e g) = omega (arith, sum_by-cons f a (b ∷ l), sum_by-cons f b l, sum_by-cons f a' (b' ∷ l), sum_by-cons f b' l, ap f e, ap f g)
sum_by_order f (Permᴰ.trans d e) = sum_by_order f d ∙ sum_by_order f e

plus-swap : (a b c : ℤ) → (a +ℤ b) +ℤ c ≡ (a +ℤ c) +ℤ b
plus-swap a b c = omega (arith, ints)

-- a running sum of signed numbers doesn't depend on the order
pub folded-order : {X : Type 0} (f : X → ℤ) (z : ℤ) {xs ys : List X} → InAnyOrder xs ys → fold (λ a x. a +ℤ f x) z xs ≡ fold (λ a x. a +ℤ f x) z ys
folded-order f z Permᴰ.nil = refl
folded-order f z (Permᴰ.cons {a = a} {b = b} {l₁ = l₁} {l₂ = l₂} e d) = ap (λ x. fold (λ a x. a +ℤ f x) (z +ℤ f x) l₁) e ∙ folded-order f (z +ℤ f b) d
folded-order f z (Permᴰ.swap {a = a} {b = b} {a' = a'} {b' = b'} {l = l} e g) =
    ap (λ s. fold (λ a x. a +ℤ f x) s l) (plus-swap z (f a) (f b))
    ∙ ap (λ x. fold (λ a x. a +ℤ f x) ((z +ℤ f x) +ℤ f a) l) g
    ∙ ap (λ x. fold (λ a x. a +ℤ f x) ((z +ℤ f a') +ℤ f x) l) e
folded-order f z (Permᴰ.trans d e) = folded-order f z d ∙ folded-order f z e
