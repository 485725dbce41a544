-- Reading hex digits one by one.
use Rattle.std.proofs.Common.{◌≡◌, ℕ, ◌+◌, ◌-◌, ◌*◌, ◌%◌, ◌^◌, ◌<◌, ◌≤◌, Bool, true, false, cond, ◌&&◌, T, leb, List, [], ◌∷◌, length, Some, None, Option, bit_or, sym, refl, ap, ◌∙◌, subst, lt_of_lt_of_le, pow-suc, add-one, arith, leb→le, mod-eq_of_lt, Bor}
use Rattle.std.specs.Fn.{Called}
use Rattle.std.specs.Iterator.{Yields}
use Rattle.std.specs.List.{FoldsTo}
use Rattle.std.specs.Option.{MatchOption}
use Rattle.std.proofs.Common.{Iter}
use Rattle.std.proofs.lemmas.Fn.{fronts}
use Rattle.std.proofs.lemmas.List.{nil_from_length}
use Rattle.std.proofs.lemmas.Nat.{or_shifted}
use denote.Param.Members.{Mut}
use lib.Ieee.Fits.{and_r}
use Rattle.sines.specs.Reading.{digit_of, digit_then, word_of}

digit_lt : (b d : ℕ) → digit_of b ≡ Some d → d < 16
digit_lt b d e =
    go (leb 48 b && leb b 57) (leb 97 b && leb b 102) (leb 65 b && leb b 70) (λ t. leb→le b 57 (and_r (leb 48 b) (leb b 57) t)) (λ t. leb→le b 102 (and_r (leb 97 b) (leb b 102) t)) (λ t. leb→le b 70 (and_r (leb 65 b) (leb b 70) t)) e
  where
    given : (n : ℕ) → n < 16 → ◌≡◌ {A = Option ℕ} (Some n) (Some d) → d < 16
    given n h e = let k : n ≡ d = cc in omega arith

    go : (p q r : Bool) → (T p → b ≤ 57) → (T q → b ≤ 102) → (T r → b ≤ 70) → cond p (Some (b - 48)) (cond q (Some (b - 97 + 10)) (cond r (Some (b - 65 + 10)) None)) ≡ Some d → d < 16
    go true q r f g h e = let k = f tt in given (b - 48) (omega arith) e
    go false true r f g h e = let k = g tt in given (b - 97 + 10) (omega arith) e
    go false false true f g h e = let k = h tt in given (b - 65 + 10) (omega arith) e
    go false false false f g h e = let z : ◌≡◌ {A = ℕ} 0 1 = cc in omega arith

-- w shifted by a digit's width, and the digit b, if it is one
abbrev pub push : ℕ → ℕ → Option ℕ
push w b = digit_then (digit_of b) (λ d. Some (bit_or (w * 16 % 2 ^ 32) d))

-- the digits of a list pushed one after another
abbrev pub pushed : ℕ → List ℕ → Option ℕ
pushed w [] = Some w
pushed w (b ∷ l) = digit_then (push w b) (λ v. pushed v l)

-- one digit more, where nothing is shifted out
pushes : (i w d : ℕ) → i < 8 → w < 16 ^ i → d < 16 → (bit_or (w * 16 % 2 ^ 32) d ≡ w * 16 + d) × (w * 16 + d < 16 ^ (i + 1))
pushes i w d h s k =
    let p : w < 16 ^ 7 = lt_of_lt_of_le s (native.Mathlib.Nat.pow-le-pow_right {n = 16} (native.Mathlib.Nat.zero-lt-suc 15) {i = i} {j = 7} (omega arith)) in
    let q : w < 268435456 = p in
    let e : w * 16 % 2 ^ 32 ≡ w * 16 = mod-eq_of_lt (omega arith) in
    (ap (λ z. bit_or z d) e ∙ or_shifted w 4 d k, subst (λ z. w * 16 + d < z) (sym (ap (λ z. 16 ^ z) (add-one i) ∙ pow-suc 16 i)) (grown w d (16 ^ i) s k))
  where
    grown : (w d p : ℕ) → w < p → d < 16 → w * 16 + d < p * 16
    grown w d p a b = omega arith

-- they write the word
pub pushed_word : (i w : ℕ) (l : List ℕ) → w < 16 ^ i → i + length l ≤ 8 → pushed w l ≡ word_of w l
pushed_word i w [] s h = refl
pushed_word i w (b ∷ l) s h = go (digit_of b) refl (λ d k e. pushed_word (i + 1) (w * 16 + d) l e k)
  where
    go : (o : Option ℕ) → digit_of b ≡ o → ((d : ℕ) → i + 1 + length l ≤ 8 → w * 16 + d < 16 ^ (i + 1) → pushed (w * 16 + d) l ≡ word_of (w * 16 + d) l) → digit_then (digit_then o (λ d. Some (bit_or (w * 16 % 2 ^ 32) d))) (λ v. pushed v l) ≡ digit_then o (λ d. word_of (w * 16 + d) l)
    go None e r = refl
    go (Some d) e r =
        let k = pushes i w d (omega arith) s (digit_lt b d e) in
        ap (λ z. pushed z l) k.0 ∙ r d (omega arith) k.1

-- what try_fold gives over bytes, where each call pushes one
module _ {F : Type 0} (E : Type 0) (g : Mut F (ℕ × (Bor ℕ × Unit {0})) (Option ℕ)) (call : (f f' : F) (w : ℕ) (x : Bor ℕ) (v : Option ℕ) → Called g f (w, (x, tt)) v f' → v ≡ push w x.now) where
  pub folded : (xs : List (Bor ℕ)) (o : Option (Bor ℕ)) (s t u : Iter ℕ) (f f' : F) (w a : ℕ) (r : Option ℕ) → Yields fronts s xs t → fronts t o u
      → FoldsTo {P = F × ℕ} (λ p x q. (v : Option ℕ) × Called g p.0 (p.1, (x, tt)) v q.0 × (v ≡ Some q.1)) (f, w) xs (f', a)
      → MatchOption o (r ≡ Some a) (λ x. (v : Option ℕ) × (h : F) × E × Called g f' (a, (x, tt)) v h × (v ≡ None) × (r ≡ None)) → r ≡ pushed w s.rest.now
  folded [] None s t u f f' w a r y k l m =
      m ∙ ap Some (sym (ap (λ p. p.1) l)) ∙ sym (ap (pushed w) (ap (λ z. z.rest.now) y ∙ nil_from_length t.rest.now k.0))
  folded [] (Some x) s t u f f' w a r y k l m =
      m.5 ∙ sym (ap (pushed w) (ap (λ z. z.rest.now) y ∙ k) ∙ ap (λ o. digit_then o (λ v. pushed v u.rest.now)) (ap (λ p. push p.1 x.now) l ∙ sym (call f' m.1 a x m.0 m.3) ∙ m.4))
  folded (x ∷ xs) o s t u f f' w a r y k l m =
      folded xs o y.0 t u l.0.0 f' l.0.1 a r y.2 k l.2 m ∙ sym (ap (pushed w) y.1 ∙ ap (λ o. digit_then o (λ v. pushed v y.0.rest.now)) (sym (call f l.0.0 w x l.1.0 l.1.1) ∙ l.1.2))
