-- Sums of fractions, in any order, and how far two of them lie apart.
use Rattle.std.proofs.Common.{◌≡◌, ℕ, zero, suc, ◌+◌, ◌*◌, List, [], ◌∷◌, map, ℤ, pos, negsuc, ◌+ℤ◌, ◌*ℤ◌, neg_ℤ, fold, sum_by, sym, refl, ap, ◌∙◌, mul-add, arith}
use mathlib.Core.List.Permᴰ
use Rattle.std.specs.List.{AllByRecursion}
use Rattle.std.proofs.lemmas.List.Sums.{sum_by-cons}
use Rattle.exact.specs.Fraction.{Fraction, ◌≈◌, ◌⊑◌, ◌⊕◌, ◌⊗◌, neg, whole, Size, Within}
use Rattle.exact.specs.Value.{integer}
use Rattle.exact.proofs.Order.{≈-refl, ≈-sym, ≈-trans, ≡-≈, ⊑_refl, ⊕-assoc, ⊕-comm, ⊕-cong, ⊕-zero, zero-⊕, ⊗-comm, within-⊑, within-≈, within-⊕, within-refl, within-mul-right}
use Rattle.exact.proofs.Away.{int-add}
use Rattle.sheets.specs.Sheets.{InAnyOrder}
use Rattle.law.specs.Law.{sum_f}

⊕-swap : (a b c : Fraction) → a ⊕ (b ⊕ c) ≈ b ⊕ (a ⊕ c)
⊕-swap a b c = ≈-trans (≈-sym (⊕-assoc a b c)) (≈-trans (⊕-cong (⊕-comm a b) (≈-refl c)) (⊕-assoc b a c))

pub sum_f_order : {X : Type 0} (f : X → Fraction) {xs ys : List X} → InAnyOrder xs ys → sum_f f xs ≈ sum_f f ys
sum_f_order f Permᴰ.nil = ≈-refl (whole 0)
sum_f_order f (Permᴰ.cons e d) = ⊕-cong (≡-≈ (ap f e)) (sum_f_order f d)
sum_f_order f (Permᴰ.swap {a = a} {b = b} {l = l} e g) = ≈-trans (⊕-swap (f a) (f b) (sum_f f l)) (⊕-cong (≡-≈ (ap f g)) (⊕-cong (≡-≈ (ap f e)) (≈-refl (sum_f f l))))
sum_f_order f (Permᴰ.trans d e) = ≈-trans (sum_f_order f d) (sum_f_order f e)

pub sum_f_map : {X Y : Type 0} (f : Y → Fraction) (g : X → Y) (xs : List X) → sum_f f (map g xs) ≈ sum_f (λ x. f (g x)) xs
sum_f_map f g [] = ≈-refl (whole 0)
sum_f_map f g (x ∷ xs) = ⊕-cong (≈-refl (f (g x))) (sum_f_map f g xs)

pub sum_by_map : {X Y : Type 0} (f : Y → ℕ) (g : X → Y) (xs : List X) → sum_by f (map g xs) ≡ sum_by (λ x. f (g x)) xs
sum_by_map f g [] = refl
sum_by_map f g (x ∷ xs) = sum_by-cons f (g x) (map g xs) ∙ ap (λ n. f (g x) + n) (sum_by_map f g xs) ∙ sym (sum_by-cons (λ x. f (g x)) x xs)

-- ---- sums of whole numbers with their signs
folded_from : {X : Type 0} (f : X → ℤ) (z : ℤ) (xs : List X) → integer (fold (λ a x. a +ℤ f x) z xs) ≈ integer z ⊕ sum_f (λ x. integer (f x)) xs
folded_from f z [] = ≈-sym (⊕-zero (integer z))
folded_from f z (x ∷ xs) =
    let s : Fraction = sum_f (λ x. integer (f x)) xs in
    ≈-trans (folded_from f (z +ℤ f x) xs) (≈-trans (⊕-cong (int-add z (f x)) (≈-refl s)) (⊕-assoc (integer z) (integer (f x)) s))

pub folded_sum_f : {X : Type 0} (f : X → ℤ) (xs : List X) → integer (fold (λ a x. a +ℤ f x) (pos 0) xs) ≈ sum_f (λ x. integer (f x)) xs
folded_sum_f f xs = ≈-trans (folded_from f (pos 0) xs) (zero-⊕ (sum_f (λ x. integer (f x)) xs))

int-neg : (n : ℕ) → integer (neg_ℤ (pos n)) ≈ neg (whole n)
int-neg zero = record { eq = refl }
int-neg (suc n) = ≈-refl (neg (whole (suc n)))

pub int-times : (n : ℕ) (z : ℤ) → integer (pos n *ℤ z) ≈ whole n ⊗ integer z
int-times n (pos m) = record { eq = omega arith }
int-times n (negsuc m) = ≈-trans (int-neg (n * suc m)) (record { eq = omega arith })

-- ---- distances
own-size : (n : ℕ) → Size (whole n) (whole n)
own-size n = record { below = ⊑_refl (whole n); above = record { le = omega arith } }

whole-times : (m n : ℕ) → whole m ⊗ whole n ⊑ whole (m * n)
whole-times m n = record { le = omega arith }

-- n times two numbers
pub times-apart : (m n : ℕ) (a b : Fraction) → Within a b (whole m) → Within (whole n ⊗ a) (whole n ⊗ b) (whole (m * n))
times-apart m n a b h = within-⊑ (whole-times m n) (within-≈ (⊗-comm a (whole n)) (⊗-comm b (whole n)) (within-mul-right h (own-size n)))

both-parts : (m u v w : ℕ) → w ≡ u + v → whole (m * u) ⊕ whole (m * v) ⊑ whole (m * w)
both-parts m u v w e = rw (e, mul-add m u v) (record { le = omega arith })

pub add_apart : (m u v w : ℕ) (a b x y : Fraction) → w ≡ u + v → Within a b (whole (m * u)) → Within x y (whole (m * v)) → Within (a ⊕ x) (b ⊕ y) (whole (m * w))
add_apart m u v w a b x y e h k = within-⊑ (both-parts m u v w e) (within-⊕ h k)

pub none_apart : (m : ℕ) → Within (whole 0) (whole 0) (whole (m * 0))
none_apart m = within-⊑ (record { le = omega arith }) (within-refl (≈-refl (whole 0)))

-- two sums over one list
pub sums_apart : {X : Type 0} (m : ℕ) (n : X → ℕ) (f g : X → Fraction) (xs : List X) → AllByRecursion (λ x. Within (f x) (g x) (whole (m * n x))) xs → Within (sum_f f xs) (sum_f g xs) (whole (m * sum_by n xs))
sums_apart m n f g [] h = none_apart m
sums_apart m n f g (x ∷ xs) h = add_apart m (n x) (sum_by n xs) (sum_by n (x ∷ xs)) (f x) (g x) (sum_f f xs) (sum_f g xs) (sum_by-cons n x xs) h.0 (sums_apart m n f g xs h.1)
