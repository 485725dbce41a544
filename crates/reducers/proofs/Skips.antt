-- The constants that are skipped: each product with the float is a multiple of 64.
use Rattle.std.proofs.Common.{◌≡◌, ℕ, zero, suc, ◌+◌, ◌-◌, ◌%◌, ◌<◌, ◌≤◌, Bool, true, false, cond, not, T, leb, pos, ◌-ℤ◌, refl, ap, ◌∙◌, subst, not-suc-le-zero, arith}
use lib.Dec.{nleb→lt}
use lib.Count.{count_trailing_zeros}
use lib.Ieee.{Float, binary32, of_bits, of_fields, odd, size}
use Rattle.exact.specs.Fraction.{Fraction, ◌≈◌, ◌⊗◌, whole}
use Rattle.exact.specs.Value.{value_of}
use Rattle.exact.specs.Multiple.{pw, Multiple}
use Rattle.exact.proofs.Order.{≈-sym}
use Rattle.exact.proofs.Powers.{two_is}
use Rattle.exact.proofs.Multiple.{multiple-unit, multiple-trans, pw-multiple}
use Rattle.reducers.specs.Reduce.{part, skips, leading, exponent_of}
use Rattle.reducers.specs.Exact.{field, LowestBits, LowestDigits, SkippedAreWholeTurns}
use Rattle.reducers.proofs.Large.{Word, Piece, product-grid}
use Rattle.reducers.proofs.Pieces.{piece0, piece1, piece2, bits}
use Rattle.reducers.proofs.Radian.{word_of, which, skips-is}

-- a grid of 64 or more
turns-of : (x c : Float) (z l : ℕ) (b : Fraction) → Word x z → Piece c l b → 155 + l ≤ z → Multiple (value_of x ⊗ value_of c) (whole 64)
turns-of x c z l b w p h = multiple-unit sixty-four (multiple-trans (product-grid x c z l b w p) (pw-multiple z (149 + l) 6 0 (z - (155 + l)) (omega arith)))
  where
    sixty-four : pw 6 0 ≈ whole 64
    sixty-four = record { eq = refl }

-- from which exponents on the i-th is skipped
least : ℕ → ℕ
least zero = 180
least (suc zero) = 211
least (suc (suc zero)) = 237
least (suc (suc (suc i))) = 255

skipped-from : (x i : ℕ) → x < 255 → i < which x → least i ≤ x
unfolding which least
skipped-from x i X h = go (leb x 179) (nleb→lt x 179) i h
  where
    go3 : (t : Bool) → (T (not t) → 236 < x) → 210 < x → (i : ℕ) → i < cond t 2 3 → least i ≤ x
    go3 t g l zero h = omega arith
    go3 t g l (suc zero) h = omega arith
    go3 true g l (suc (suc i)) h = absurd (clash i h)
      where
        clash : (i : ℕ) → suc (suc i) < 2 → ⊥
        clash i h = omega arith
    go3 false g l (suc (suc zero)) h = g tt
    go3 false g l (suc (suc (suc i))) h = absurd (clash i h)
      where
        clash : (i : ℕ) → suc (suc (suc i)) < 3 → ⊥
        clash i h = omega arith

    go2 : (t : Bool) → (T (not t) → 210 < x) → 179 < x → (i : ℕ) → i < cond t 1 (cond (leb x 236) 2 3) → least i ≤ x
    go2 true g l zero h = l
    go2 true g l (suc i) h = absurd (clash i h)
      where
        clash : (i : ℕ) → suc i < 1 → ⊥
        clash i h = omega arith
    go2 false g l i h = go3 (leb x 236) (nleb→lt x 236) (g tt) i h

    go : (t : Bool) → (T (not t) → 179 < x) → (i : ℕ) → i < cond t 0 (cond (leb x 210) 1 (cond (leb x 236) 2 3)) → least i ≤ x
    go true g i h = absurd (not-suc-le-zero h)
    go false g i h = go2 (leb x 210) (nleb→lt x 210) (g tt) i h

turns_at : (x : Float) (e i : ℕ) → Word x (e - 1) → e < 255 → least i ≤ e → Multiple (value_of x ⊗ value_of (part i)) (whole 64)
unfolding least
turns_at x e zero w l h = turns-of x (part 0) (e - 1) 24 (bits 170891319 24) w piece0 (omega arith)
turns_at x e (suc zero) w l h = turns-of x (part 1) (e - 1) 55 (bits 227401559 55) w piece1 (omega arith)
turns_at x e (suc (suc zero)) w l h = turns-of x (part 2) (e - 1) 81 (bits 20940011 81) w piece2 (omega arith)
turns_at x e (suc (suc (suc i))) w l h = absurd (clash e l h)
  where
    clash : (e : ℕ) → e < 255 → 255 ≤ e → ⊥
    clash e l h = omega arith

pub skipped-turns : SkippedAreWholeTurns
skipped-turns w i ne h = turns_at (of_bits binary32 w) (field w) i (word_of w H) H (skipped-from (field w) i H (subst (λ n. i < n) skip h))
  where
    H : field w < 255
    H = omega arith

    same : field w % 256 ≡ field w
    same = omega arith

    skip : skips leading (exponent_of (w % 2147483648)) ≡ which (field w)
    skip = ap (λ y. skips leading (pos y -ℤ pos 127)) same ∙ skips-is (field w) H

pub lowest-digits : LowestDigits
lowest-digits w ne = multiple-unit (≈-sym (two_is (field w - 1) 149)) (word_of w H).grid
  where
    H : field w < 255
    H = omega arith

pub lowest-bits : LowestBits
unfolding of_bits of_fields odd count_trailing_zeros size
lowest-bits zero h = record { p = 170891319; m = 0; is = record { eq = refl }; half = 85445659; odd = refl }
lowest-bits (suc zero) h = record { p = 0; m = 227401559; is = record { eq = refl }; half = 113700779; odd = refl }
lowest-bits (suc (suc zero)) h = record { p = 20940011; m = 0; is = record { eq = refl }; half = 10470005; odd = refl }
lowest-bits (suc (suc (suc zero))) h = record { p = 0; m = 193114825; is = record { eq = refl }; half = 96557412; odd = refl }
lowest-bits (suc (suc (suc (suc zero)))) h = record { p = 235330325; m = 0; is = record { eq = refl }; half = 117665162; odd = refl }
lowest-bits (suc (suc (suc (suc (suc zero))))) h = record { p = 0; m = 43626735; is = record { eq = refl }; half = 21813367; odd = refl }
lowest-bits (suc (suc (suc (suc (suc (suc zero)))))) h = record { p = 0; m = 117170203; is = record { eq = refl }; half = 58585101; odd = refl }
lowest-bits (suc (suc (suc (suc (suc (suc (suc i))))))) h = absurd (clash i h)
  where
    clash : (i : ℕ) → suc (suc (suc (suc (suc (suc (suc i)))))) < 7 → ⊥
    clash i h = omega arith
