-- How near `closest` and the grid of a format are. About natural numbers only.
use Rattle.std.proofs.Common.{◌≡◌, ℕ, suc, ◌+◌, ◌-◌, ◌*◌, ◌/◌, ◌%◌, ◌^◌, ◌<◌, ◌≤◌, not, T, eqb, sym, ap, ◌∙◌, subst, inl, inr, le_trans, le_of_eq, le_refl, lt_of_le_of_lt, le_of_lt, mul-le-mul_right, mod-lt, div-lt_iff_lt-mul, eq-or-lt_of_le, mul-le-mul_left, mul-pos, div-add-mod', mul-one, div-one, mul-div_cancel, arith, eqb→eq, leb→le, pow_pos, pow_mono, pow-add}
use Prim.Native.Nat.{compare, Ordering}
use native.Mathlib.Nat.{mod-one}
use lib.Dec.{is_le, compare_is_eq, nleb→lt, eqb_refl}
use lib.Arith.{lt_of_le-ne}
use lib.Pow.{pow-lt}
use lib.Ieee.{nearest, size}
use lib.Ieee.Digits.{size-le, back}
use lib.Ieee.Nearest.{closest, closest_mono, closest_same}
use lib.Ieee.Order.{drop, kept}

abbrev Cmp : Ordering → ℕ → ℕ → Type 0
Cmp Ordering.lt a b = a < b
Cmp Ordering.eq a b = a ≡ b
Cmp Ordering.gt a b = b < a

cmp : (a b : ℕ) → Cmp (compare a b) a b
cmp a b = go (compare a b) (leb→le a b) (nleb→lt a b) (eqb→eq a b) (λ (e : a ≡ b). subst (λ (x : ℕ). T (eqb a x)) e (eqb_refl a))
  where
    go : (o : Ordering) → (T (is_le o) → a ≤ b) → (T (not (is_le o)) → b < a) → (T (compare_is_eq o) → a ≡ b) → (a ≡ b → T (compare_is_eq o)) → Cmp o a b
    go Ordering.lt h k e n = lt_of_le-ne (h tt) n
    go Ordering.eq h k e n = e tt
    go Ordering.gt h k e n = k tt

-- 2 * |c - a| ≤ b
abbrev pub Near : ℕ → ℕ → ℕ → Type 0
Near c a b = (c * 2 ≤ a * 2 + b) × (a * 2 ≤ c * 2 + b)

near : (q r b : ℕ) (o : Ordering) → r < b → Cmp o (r * 2) b → Near (nearest q o * b) (q * b + r) b
near q r b Ordering.lt l c = omega arith
near q r b Ordering.eq l c =
    let h : q % 2 ≤ 1 = omega arith in
    let k : q % 2 * b ≤ 1 * b = mul-le-mul_right b h in
    omega arith
near q r b Ordering.gt l c = omega arith

pub closest-near : (a b : ℕ) → 0 < b → Near (closest a b * b) a b
closest-near a b B = subst (λ (z : ℕ). Near (closest a b * b) z b) (div-add-mod' a b) (near (a / b) (a % b) b (compare (a % b * 2) b) (mod-lt a B) (cmp (a % b * 2) b))

pub closest-one : (q : ℕ) → closest q 1 ≡ q
closest-one q = ap (λ (z : ℕ). nearest z (compare (q % 1 * 2) 1)) (div-one q) ∙ ap (λ (z : ℕ). nearest q (compare (z * 2) 1)) (mod-one q)

pub closest-whole : (q u : ℕ) → 0 < u → closest (q * u) u ≡ q
closest-whole q u U = closest_same (q * u) u q 1 U (pow_pos 0) (mul-one (q * u)) ∙ closest-one q

pub closest-le : (n q u : ℕ) → 0 < u → n ≤ q * u → closest n u ≤ q
closest-le n q u U h = le_trans (closest_mono n u q 1 U (pow_pos 0) (le_trans (le_of_eq (mul-one n)) h)) (le_of_eq (closest-one q))

-- ---- the grid
abbrev pub grid_of : ℕ → ℕ → ℕ → ℕ
grid_of p n d = kept p n d * 2 ^ drop p n d

pub record Gridded (p n d j : ℕ) : Type 0 where
  pub near : Near (grid_of p n d * d) n (d * 2 ^ (j - p))
  pub small : grid_of p n d ≤ 2 ^ j

pub split-pow : (j k : ℕ) → k ≤ j → 2 ^ (j - k) * 2 ^ k ≡ 2 ^ j
split-pow j k h = sym (pow-add 2 (j - k) k) ∙ ap (λ (x : ℕ). 2 ^ x) (back j k h)

pub regroup : (c d k : ℕ) → c * (d * 2 ^ k) ≡ c * 2 ^ k * d
regroup c d k = omega arith

small_at : (c n d j k : ℕ) → 0 < d → k ≤ j → n ≤ 2 ^ j * d → closest n (d * 2 ^ k) * 2 ^ k ≤ 2 ^ j
small_at c n d j k D K h =
    le_trans (mul-le-mul_right (2 ^ k) (closest-le n (2 ^ (j - k)) (d * 2 ^ k) (mul-pos D (pow_pos k)) (le_trans h (le_of_eq (sym (regroup (2 ^ (j - k)) d k ∙ ap (λ z. z * d) (split-pow j k K)))))))
    (le_of_eq (split-pow j k K))

pub near-mono : (c a b b' : ℕ) → b ≤ b' → Near c a b → Near c a b'
near-mono c a b b' h n = let x = n.0 in let y = n.1 in (omega arith, omega arith)

pub near-at : (n d k : ℕ) → 0 < d → Near (closest n (d * 2 ^ k) * 2 ^ k * d) n (d * 2 ^ k)
near-at n d k D = subst (λ z. Near z n (d * 2 ^ k)) (regroup (closest n (d * 2 ^ k)) d k) (closest-near n (d * 2 ^ k) (mul-pos D (pow_pos k)))

near-self : (a b : ℕ) → Near a a b
near-self a b = (omega arith, omega arith)

strict : (p n d j : ℕ) → 0 < d → n < 2 ^ j * d → Gridded p n d j
strict p n d j D h =
    let s : size (n / d) ≤ j = size-le (n / d) j ((div-lt_iff_lt-mul D).1 h) in
    let k = drop p n d in
    let K : k ≤ j - p = omega arith in
    let K' : k ≤ j = omega arith in
    let w : d * 2 ^ k ≤ d * 2 ^ (j - p) = mul-le-mul_left d (pow_mono K) in
    record {
      near = near-mono (grid_of p n d * d) n (d * 2 ^ k) (d * 2 ^ (j - p)) w (near-at n d k D);
      small = small_at n n d j k D K' (le_of_lt h);
    }

level : (p d j : ℕ) → 2 ≤ p → 0 < d → Gridded p (2 ^ j * d) d j
level p d j P D =
    let e : 2 ^ j * d / d ≡ 2 ^ j = mul-div_cancel (2 ^ j) D in
    let s : size (2 ^ j * d / d) ≤ suc j = size-le (2 ^ j * d / d) (suc j) (lt_of_le_of_lt (le_of_eq e) (pow-lt (le_refl (suc j)))) in
    let k = drop p (2 ^ j * d) d in
    let K : k ≤ j = omega arith in
    let u = d * 2 ^ k in
    let f : 2 ^ j * d ≡ 2 ^ (j - k) * u = sym (regroup (2 ^ (j - k)) d k ∙ ap (λ z. z * d) (split-pow j k K)) in
    let c : closest (2 ^ j * d) u ≡ 2 ^ (j - k) = ap (λ z. closest z u) f ∙ closest-whole (2 ^ (j - k)) u (mul-pos D (pow_pos k)) in
    let g : grid_of p (2 ^ j * d) d ≡ 2 ^ j = ap (λ z. z * 2 ^ k) c ∙ split-pow j k K in
    record { near = subst (λ z. Near (z * d) (2 ^ j * d) (d * 2 ^ (j - p))) (sym g) (near-self (2 ^ j * d) (d * 2 ^ (j - p))); small = le_of_eq g }

pub gridded : (p n d j : ℕ) → 2 ≤ p → 0 < d → n ≤ 2 ^ j * d → Gridded p n d j
gridded p n d j P D h = elim (eq-or-lt_of_le h) [ inl e ↦ subst (λ z. Gridded p z d j) (sym e) (level p d j P D) | inr l ↦ strict p n d j D l ]
