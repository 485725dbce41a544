-- Words of finite floats, and the six functions from word to word.
use Rattle.std.proofs.Common.{◌≡◌, ℕ, ◌-◌, ◌%◌, ◌^◌, ◌<◌, ◌≤◌, Bool, true, false, not, T, sym, refl, ap, ◌∙◌, subst, arith}
use lib.Ieee.{Float, binary32, nan, inf, fin, is_nan, nan_bits, fits, neg, of_bits, of_fields, odd, to_bits}
use lib.Ieee.Bits.{of_bits-to_bits, to_bits-of_bits, nan_bits_is}
use lib.Ieee.Bits.{of_bits-fits}
use lib.Count.{count_trailing_zeros}
use Rattle.std.specs.Float.{float_with_sign}
use Rattle.std.proofs.num.Patterns.{below_the_nans}
use Rattle.rounding.proofs.Signs.{copied, bits-sign}
use Rattle.formulas.specs.Words.{size_bits, narrowed, on_word, zero_of}
use Rattle.formulas.specs.Radians.{infinite}

-- ---- a finite word
pub clean : (w : ℕ) → w % 2 ^ 31 < infinite → T (not (nan_bits binary32 w))
clean w h = below_the_nans binary32 w (omega arith)

pub number : (w : ℕ) → w % 2 ^ 31 < infinite → T (not (is_nan (of_bits binary32 w)))
number w h = subst (λ b. T (not b)) (nan_bits_is binary32 w) (clean w h)

back : (w : ℕ) → w < 2 ^ 32 → w % 2 ^ 31 < infinite → to_bits binary32 (of_bits binary32 w) ≡ w
back w l h = to_bits-of_bits binary32 w l (number w h)

pub size_is : (w : ℕ) → w < 2 ^ 32 → w % 2 ^ 31 < infinite → size_bits (of_bits binary32 w) ≡ w % 2 ^ 31
size_is w l h = ap (λ z. z % 2 ^ 31) (back w l h)

-- infinities and NaNs
nan_only : (x : Float) → is_nan x ≡ true → x ≡ nan
unfolding is_nan
nan_only nan h = refl
nan_only (inf s) h = absurd (subst (λ b. T (not b)) h tt)
nan_only (fin s m e) h = absurd (subst (λ b. T (not b)) h tt)

nan_size : infinite ≤ size_bits nan
unfolding to_bits
nan_size = lib.Dec.lit≤ tt

size_not_finite : (w : ℕ) → w < 2 ^ 32 → infinite ≤ w % 2 ^ 31 → infinite ≤ size_bits (of_bits binary32 w)
size_not_finite w l h = go (of_bits binary32 w) (is_nan (of_bits binary32 w)) refl refl
  where
    go : (x : Float) (t : Bool) → x ≡ of_bits binary32 w → is_nan x ≡ t → infinite ≤ size_bits x
    go x true e n = subst (λ z. infinite ≤ size_bits z) (sym (nan_only x n)) nan_size
    go x false e n = subst (λ z. infinite ≤ z % 2 ^ 31) (sym (ap (to_bits binary32) e ∙ to_bits-of_bits binary32 w l (subst (λ b. T (not b)) (sym n ∙ ap is_nan e) tt))) h

-- ---- zeros
pub zero_word : (w : ℕ) → w < 2 ^ 32 → w % 2 ^ 31 < infinite → w - w % 2147483648 ≡ to_bits binary32 (zero_of (of_bits binary32 w))
zero_word w l h =
    let c = w - w % 2147483648 in
    let e : of_bits binary32 c ≡ zero_of (of_bits binary32 w) = copied binary32 0 w c (lib.Dec.lit< tt) l (omega arith) ∙ ap (λ z. float_with_sign z (of_bits binary32 0)) (sym (bits-sign binary32 w (number w h))) in
    sym (back c (omega arith) (omega arith)) ∙ ap (to_bits binary32) e

-- ---- the words of 1 and -1
pub one_word : ◌≡◌ {A = ℕ} 1065353216 (to_bits binary32 (of_bits binary32 0x3f800000))
one_word = sym (back 1065353216 (lib.Dec.lit< tt) (lib.Dec.lit< tt))

minus_one : neg (of_bits binary32 0x3f800000) ≡ of_bits binary32 0xbf800000
unfolding neg of_bits of_fields odd count_trailing_zeros
minus_one = refl

pub minus_one_word : ◌≡◌ {A = ℕ} 3212836864 (to_bits binary32 (neg (of_bits binary32 0x3f800000)))
minus_one_word = sym (ap (to_bits binary32) minus_one ∙ back 0xbf800000 (lib.Dec.lit< tt) (lib.Dec.lit< tt))

-- ---- what f answers on a word, by the way through its definition
module _ (f : Float → Float) (w : ℕ) where
  -- no number
  pub nan_way : w < 2 ^ 32 → ((x : Float) → infinite ≤ size_bits x → f x ≡ nan) → infinite ≤ w % 2 ^ 31 → 2143289344 ≡ on_word f w
  unfolding to_bits
  nan_way l n h = sym (ap (to_bits binary32) (n (of_bits binary32 w) (size_not_finite w l h)))

  -- the float itself
  pub same_way : w < 2 ^ 32 → w % 2 ^ 31 < infinite → f (of_bits binary32 w) ≡ of_bits binary32 w → w ≡ on_word f w
  same_way l h e = sym (ap (to_bits binary32) e ∙ back w l h)

  -- what g gives at x, narrowed
  pub narrow_way : (g : Float → Float) → {x z v : Float} {r : ℕ} → r ≡ to_bits binary32 (narrowed v) → v ≡ g z → z ≡ x → f (of_bits binary32 w) ≡ narrowed (g x) → r ≡ on_word f w
  narrow_way g n i d e = n ∙ ap (to_bits binary32) (ap narrowed (i ∙ ap g d) ∙ sym e)

-- ---- from floats to words and back
-- f at a float of the format, by way of words
pub on-float : (f : Float → Float) → ((x : Float) → T (fits binary32 x) → T (fits binary32 (f x))) → (x r : Float) (a b : ℕ) → T (fits binary32 x) → a ≡ to_bits binary32 x → b ≡ on_word f a → r ≡ of_bits binary32 b → r ≡ f x
on-float f keeps x r a b h A B R =
    R ∙ ap (of_bits binary32) (B ∙ ap (on_word f) A ∙ ap (λ z. to_bits binary32 (f z)) (of_bits-to_bits binary32 x h)) ∙ of_bits-to_bits binary32 (f x) (keeps x h)

-- where P holds of f at every float of the format, it holds of f on words
pub on-words : (f : Float → Float) (P : Float → Float → Type 0) → ((x : Float) → T (fits binary32 x) → T (fits binary32 (f x))) → ((x : Float) → T (fits binary32 x) → P x (f x)) → (w b : ℕ) → b ≡ on_word f w → P (of_bits binary32 w) (of_bits binary32 b)
on-words f P keeps holds w b B =
    let x = of_bits binary32 w in
    let h = of_bits-fits binary32 w in
    subst (λ r. P x r) (sym (ap (of_bits binary32) B ∙ of_bits-to_bits binary32 (f x) (keeps x h))) (holds x h)
