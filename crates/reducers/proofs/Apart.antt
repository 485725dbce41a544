-- y is not zero: the last product is an odd multiple of a power of two of which every other term is an even one.
use Rattle.std.proofs.Common.{ℕ, ◌+◌, ◌-◌, ◌<◌, ◌≤◌, T, arith}
use lib.Ieee.{Float, binary64, add}
use lib.Ieee.Scale.{finite}
use Rattle.exact.specs.Fraction.{Fraction, ◌≈◌, ◌⊕◌, ◌⊗◌, whole}
use Rattle.exact.specs.Value.{value_of}
use Rattle.exact.specs.Multiple.{pw, Multiple, OddMultiple, Apart}
use Rattle.exact.proofs.Order.{≈-refl, ≈-sym, ≈-trans, ⊗-cong, ≈→⊒}
use Rattle.exact.proofs.Rounding.{add-rounded}
use Rattle.exact.proofs.Multiple.{multiple-unit, multiple-⊕, multiple-⊗, multiple-trans, pw-same, pw-mul, pw-multiple, one-pw, two-pw}
use Rattle.exact.proofs.Keep.{rounded-keeps, rounded-apart, apart-⊑}
use Rattle.exact.proofs.Odd.{odd-unit, odd-⊗, odd_even, odd-apart}

-- ---- terms
-- x c for a constant that is a multiple of 2 ^ -l, as a multiple of a finer power
pub term : (X C : Fraction) (v l n : ℕ) → l ≤ n → Multiple X (pw v 149) → Multiple C (pw 0 l) → Multiple (X ⊗ C) (pw v (149 + n))
term X C v l n h m k = multiple-trans (multiple-unit (≈-trans (pw-mul v 149 0 l) (pw-same (v + 0) (149 + l) v (149 + l) (omega arith))) (multiple-⊗ m k)) (pw-multiple v (149 + l) v (149 + n) (n - l) (omega arith))

pub odd-term : (X C : Fraction) (v l : ℕ) → OddMultiple X (pw v 149) → OddMultiple C (pw 0 l) → OddMultiple (X ⊗ C) (pw v (149 + l))
odd-term X C v l m k = odd-unit (≈-trans (pw-mul v 149 0 l) (pw-same (v + 0) (149 + l) v (149 + l) (omega arith))) (odd-⊗ m k)

pub whole-term : (k : Fraction) (v n : ℕ) → v ≤ 149 + n → Multiple k (whole 1) → Multiple k (pw v (149 + n))
whole-term k v n h m = multiple-trans (multiple-unit one-pw m) (pw-multiple 0 0 v (149 + n) (149 + n - v) (omega arith))

-- a rounded sum of multiples
pub sum-keeps : (a b : Float) (v n : ℕ) → n ≤ 925 → T (finite a) → T (finite b) → T (finite (add binary64 a b)) → Multiple (value_of a) (pw v (149 + n)) → Multiple (value_of b) (pw v (149 + n)) → Multiple (value_of (add binary64 a b)) (pw v (149 + n))
sum-keeps a b v n h p q r m k =
    let e = pw-same v (149 + n) (v + (925 - n)) 1074 (omega arith) in
    multiple-unit (≈-sym e) (rounded-keeps binary64 (add binary64 a b) (value_of a ⊕ value_of b) (v + (925 - n)) (add-rounded binary64 a b p q) r (multiple-unit e (multiple-⊕ m k)))

-- the last sum: of an odd multiple and multiples of a larger power
pub sum-apart : (a b : Float) (v l n : ℕ) → l < n → n ≤ 925 → T (finite a) → T (finite b) → T (finite (add binary64 a b)) → OddMultiple (value_of a) (pw v (149 + n)) → Multiple (value_of b) (pw v (149 + l)) → Apart (value_of (add binary64 a b)) (pw v (149 + n))
sum-apart a b v l n h N p q r m k =
    let u = pw v (149 + n) in
    let t : whole 2 ⊗ u ≈ pw (1 + v) (149 + n) = ≈-trans (⊗-cong two-pw (≈-refl u)) (≈-trans (pw-mul 1 0 v (149 + n)) (pw-same (1 + v) (0 + (149 + n)) (1 + v) (149 + n) (omega arith))) in
    let even : Multiple (value_of b) (whole 2 ⊗ u) = multiple-unit (≈-sym t) (multiple-trans k (pw-multiple v (149 + l) (1 + v) (149 + n) (n - l - 1) (omega arith))) in
    let e = pw-same v (149 + n) (v + (925 - n)) 1074 (omega arith) in
    let s : Apart (value_of a ⊕ value_of b) (pw (v + (925 - n)) 1074) = apart-unit e (odd-apart v (149 + n) (odd_even m even)) in
    apart-unit (≈-sym e) (rounded-apart binary64 (add binary64 a b) (value_of a ⊕ value_of b) (v + (925 - n)) (add-rounded binary64 a b p q) r s)
  where
    apart-unit : {a c d : Fraction} → c ≈ d → Apart a c → Apart a d
    apart-unit e h = apart-⊑ (≈→⊒ e) h
