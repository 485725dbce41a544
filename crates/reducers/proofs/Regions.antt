-- The four ranges of exponents of the larger floats, and the smaller floats: each by the closed tests of its bounds.
use Rattle.std.proofs.Common.{ℕ, ◌+◌, ◌-◌, ◌<◌, ◌≤◌, Bool, true, false, not, T, leb, refl, arith, lit≤, leb→le}
use lib.Dec.{nleb→lt}
use lib.Ieee.{Float, binary64, add, sub, mul, size}
use lib.Ieee.Fits.{add-fits, mul-fits}
use Rattle.exact.specs.Fraction.{Fraction, ◌⊕◌, ◌⊗◌, whole, Size, Within, leq, tiny, frac}
use Rattle.exact.specs.Value.{value_of, Good}
use Rattle.exact.specs.Multiple.{pw, Multiple, OddMultiple}
use Rattle.exact.specs.Rounded.{error_of, in_range}
use Rattle.exact.proofs.Order.{by-test, ≈-sym, size-⊑, size-⊕, size-⊗, within-⊑, size-≈}
use Rattle.exact.proofs.Powers.{Same}
use Rattle.exact.proofs.Multiple.{multiple-⊗, multiple-trans, pw-le, pw-multiple}
use Rattle.exact.proofs.Away.{Away, away, away-small}
use Rattle.reducers.specs.Reduce.{part, fmla, nearest_whole}
use Rattle.reducers.specs.Exact.{steps_per_radian}
use Rattle.reducers.proofs.Large.{Word, Piece, Found, Tests, B1, product-exact, summed, lo-exact, large}
use Rattle.reducers.proofs.Pieces.{bits, piece0, piece1, piece2, piece3, piece4, piece5, piece6, first, tail0, tail1, tail2, tail3, skip1, skip2, skip3, odd3, odd4, odd5, odd6}

abbrev hi_of : Float → Float → Float
hi_of x c = mul binary64 x c

abbrev fr_of : Float → Float → Float
fr_of x c = sub binary64 (hi_of x c) (nearest_whole (hi_of x c))

abbrev lo_of : Float → Float → Float → Float
lo_of x c d = add binary64 (mul binary64 x d) (fr_of x c)

abbrev LoGood : Float → Float → Float → Type 0
LoGood x c d = Good (lo_of x c d) (value_of (mul binary64 x d) ⊕ value_of (fr_of x c)) (tiny 54)

-- ---- the second sum
module _ (x c0 c1 : Float) (z l0 l1 : ℕ) (b0 b1 : Fraction) (w : Word x z) (p0 : Piece c0 l0 b0) (p1 : Piece c1 l1 b1) (Z : z ≤ 253) where
  hi-exact : Same (hi_of x c0) (value_of x ⊗ value_of c0)
  hi-exact = product-exact x c0 z l0 b0 w p0 Z

  hi-away : Away binary64 (nearest_whole (hi_of x c0)) (hi_of x c0)
  unfolding hi-exact
  hi-away = away binary64 (hi_of x c0) hi-exact.fin (mul-fits binary64 x c0)

  q1-exact : Same (mul binary64 x c1) (value_of x ⊗ value_of c1)
  q1-exact = product-exact x c1 z l1 b1 w p1 Z

  fr-small : Size (value_of (fr_of x c0)) (frac 1 2)
  fr-small = size-≈ (≈-sym hi-away.exact.is) (away-small hi-away)

  lo-A : l0 ≤ l1 → z ≤ 149 + l1 → 96 + l1 ≤ z → LoGood x c0 c1
  unfolding leq
  lo-A a b c =
      let g = lo-exact x c0 c1 (hi_of x c0) (nearest_whole (hi_of x c0)) (fr_of x c0) (mul binary64 x c1) z l0 l1 b0 b1 w p0 p1 a b c Z hi-exact hi-away.integral hi-away.exact fr-small q1-exact in
      record { fin = g.fin; near = within-⊑ (by-test {a = whole 0} {b = tiny 54} tt) g.near }

  lo-B : (bx : Fraction) → Size (value_of x) bx → T (in_range binary64 (B1 bx b1)) → T (leq (error_of binary64 (B1 bx b1)) (tiny 54)) → LoGood x c0 c1
  lo-B bx s t u = summed (mul binary64 x c1) (fr_of x c0) (B1 bx b1) (tiny 54) q1-exact.fin hi-away.exact.fin (size-⊕ (size-≈ (≈-sym q1-exact.is) (size-⊗ s p1.size)) fr-small) t u

-- ---- all
abbrev pub y_of : Float → Float → Float → Float → Float → Float
y_of x c0 c1 c2 c3 = fmla x c3 (fmla x c2 (sub binary64 (lo_of x c0 c1) (nearest_whole (lo_of x c0 c1))))

module _ (x c0 c1 c2 c3 : Float) (z l0 l1 l2 l3 : ℕ) (b0 b1 b2 b3 bx t s : Fraction) (w : Word x z) (p0 : Piece c0 l0 b0) (p1 : Piece c1 l1 b1) (p2 : Piece c2 l2 b2) (p3 : Piece c3 l3 b3) (Z : z ≤ 253) (bound : Size (value_of x) bx) (test : Tests b0 b1 b2 b3 bx (tiny 54) t) (skip : Multiple (value_of x ⊗ s) (whole 64)) (tail : Within (s ⊕ (value_of c0 ⊕ value_of c1 ⊕ value_of c2 ⊕ value_of c3)) steps_per_radian t) (o3 : OddMultiple (value_of c3) (pw 0 l3)) (L02 : l0 ≤ l2) (L12 : l1 ≤ l2) (L23 : l2 < l3) (lo : LoGood x c0 c1) where
  run : Found (value_of x) steps_per_radian l2 l3 (nearest_whole (hi_of x c0)) (nearest_whole (lo_of x c0 c1)) (y_of x c0 c1 c2 c3)
  run =
      let a = hi-away x c0 c1 z l0 l1 b0 b1 w p0 p1 Z in
      large x c0 c1 c2 c3 z l0 l1 l2 l3 b0 b1 b2 b3 bx (tiny 54) t s steps_per_radian w p0 p1 p2 p3 Z bound test skip tail o3 L02 L12 L23
      (hi_of x c0) (nearest_whole (hi_of x c0)) (fr_of x c0) (mul binary64 x c1) (lo_of x c0 c1) (nearest_whole (lo_of x c0 c1)) (sub binary64 (lo_of x c0 c1) (nearest_whole (lo_of x c0 c1))) (mul binary64 x c2) (fmla x c2 (sub binary64 (lo_of x c0 c1) (nearest_whole (lo_of x c0 c1)))) (mul binary64 x c3) (y_of x c0 c1 c2 c3)
      (hi-exact x c0 c1 z l0 l1 b0 b1 w p0 p1 Z) a a.exact (q1-exact x c0 c1 z l0 l1 b0 b1 w p0 p1 Z) refl lo (away binary64 (lo_of x c0 c1) lo.fin (add-fits binary64 (mul binary64 x c1) (fr_of x c0))) refl refl refl refl refl

pub within-range : (x : Float) (z n : ℕ) → Word x z → z ≤ n → Size (value_of x) (pw (n + 24) 149)
within-range x z n w h = size-⊑ (pw-le (z + 24) 149 (n + 24) 149 (omega arith)) w.size

no-skip : (X : Fraction) → Multiple (X ⊗ whole 0) (whole 64)
no-skip X = record { p = 0; m = 0; is = record { eq = omega arith } }

skipping : (x : Float) (z n l : ℕ) (s : Fraction) → Word x z → n ≤ z → Multiple s (pw 0 l) → Multiple (pw n 149 ⊗ pw 0 l) (whole 64) → Multiple (value_of x ⊗ s) (whole 64)
skipping x z n l s w h m k = multiple-trans (multiple-⊗ (multiple-trans w.grid (pw-multiple z 149 n 149 (z - n) (omega arith))) m) k

abbrev pub At : ℕ → ℕ → ℕ → Float → Type 0
At i l2 l3 x = Found (value_of x) steps_per_radian l2 l3 (nearest_whole (hi_of x (part i))) (nearest_whole (lo_of x (part i) (part (i + 1)))) (y_of x (part i) (part (i + 1)) (part (i + 2)) (part (i + 3)))

pub by-range : {A : Type 0} (n z : ℕ) → (z ≤ n → A) → (n < z → A) → A
by-range {A} n z f g = go (leb z n) (leb→le z n) (nleb→lt z n)
  where
    go : (t : Bool) → (T t → z ≤ n) → (T (not t) → n < z) → A
    go true a b = f (a tt)
    go false a b = g (b tt)

tests0 : Tests (bits 170891319 24) (bits 227401559 55) (bits 20940011 81) (bits 193114825 114) (pw 202 149) (tiny 54) (tiny 115)
unfolding size leq
tests0 = record { r1 = tt; e1 = tt; r2 = tt; e2 = tt; last = tt; hi = tt; lo = tt; both = tt; all = tt }

low0 : T (in_range binary64 (B1 (pw 174 149) (bits 227401559 55))) × T (leq (error_of binary64 (B1 (pw 174 149) (bits 227401559 55))) (tiny 54))
unfolding size leq
low0 = (tt, tt)

pub region0 : (x : Float) (z : ℕ) → Word x z → z ≤ 178 → At 0 81 114 x
region0 x z w h =
    let Z : z ≤ 253 = omega arith in
    let lo : LoGood x (part 0) (part 1) = by-range 150 z (λ k. lo-B x (part 0) (part 1) z 24 55 (bits 170891319 24) (bits 227401559 55) w piece0 piece1 Z (pw 174 149) (within-range x z 150 w k) low0.0 low0.1) (λ k. lo-A x (part 0) (part 1) z 24 55 (bits 170891319 24) (bits 227401559 55) w piece0 piece1 Z (omega arith) (omega arith) (omega arith)) in
    run x (part 0) (part 1) (part 2) (part 3) z 24 55 81 114 (bits 170891319 24) (bits 227401559 55) (bits 20940011 81) (bits 193114825 114) (pw 202 149) (tiny 115) (whole 0) w piece0 piece1 piece2 piece3 Z (within-range x z 178 w h) tests0 (no-skip (value_of x)) tail0 odd3 (lit≤ tt) (lit≤ tt) (lit≤ tt) lo

tests1 : Tests (bits 227401559 55) (bits 20940011 81) (bits 193114825 114) (bits 235330325 143) (pw 233 149) (tiny 54) (tiny 144)
unfolding size leq
tests1 = record { r1 = tt; e1 = tt; r2 = tt; e2 = tt; last = tt; hi = tt; lo = tt; both = tt; all = tt }

pub region1 : (x : Float) (z : ℕ) → Word x z → 179 ≤ z → z ≤ 209 → At 1 114 143 x
region1 x z w g h =
    let Z : z ≤ 253 = omega arith in
    run x (part 1) (part 2) (part 3) (part 4) z 55 81 114 143 (bits 227401559 55) (bits 20940011 81) (bits 193114825 114) (bits 235330325 143) (pw 233 149) (tiny 144) (first 1) w piece1 piece2 piece3 piece4 Z (within-range x z 209 w h) tests1
    (skipping x z 179 24 (first 1) w g skip1 (record { p = 1; m = 0; is = record { eq = refl } })) tail1 odd4 (lit≤ tt) (lit≤ tt) (lit≤ tt)
    (lo-A x (part 1) (part 2) z 55 81 (bits 227401559 55) (bits 20940011 81) w piece1 piece2 Z (omega arith) (omega arith) (omega arith))

tests2 : Tests (bits 20940011 81) (bits 193114825 114) (bits 235330325 143) (bits 43626735 170) (pw 259 149) (tiny 54) (tiny 173)
unfolding size leq
tests2 = record { r1 = tt; e1 = tt; r2 = tt; e2 = tt; last = tt; hi = tt; lo = tt; both = tt; all = tt }

pub region2 : (x : Float) (z : ℕ) → Word x z → 210 ≤ z → z ≤ 235 → At 2 143 170 x
region2 x z w g h =
    let Z : z ≤ 253 = omega arith in
    run x (part 2) (part 3) (part 4) (part 5) z 81 114 143 170 (bits 20940011 81) (bits 193114825 114) (bits 235330325 143) (bits 43626735 170) (pw 259 149) (tiny 173) (first 2) w piece2 piece3 piece4 piece5 Z (within-range x z 235 w h) tests2
    (skipping x z 210 55 (first 2) w g skip2 (record { p = 1; m = 0; is = record { eq = refl } })) tail2 odd5 (lit≤ tt) (lit≤ tt) (lit≤ tt)
    (lo-A x (part 2) (part 3) z 81 114 (bits 20940011 81) (bits 193114825 114) w piece2 piece3 Z (omega arith) (omega arith) (omega arith))

tests3 : Tests (bits 193114825 114) (bits 235330325 143) (bits 43626735 170) (bits 117170203 200) (pw 277 149) (tiny 54) (tiny 203)
unfolding size leq
tests3 = record { r1 = tt; e1 = tt; r2 = tt; e2 = tt; last = tt; hi = tt; lo = tt; both = tt; all = tt }

low3 : T (in_range binary64 (B1 (pw 262 149) (bits 235330325 143))) × T (leq (error_of binary64 (B1 (pw 262 149) (bits 235330325 143))) (tiny 54))
unfolding size leq
low3 = (tt, tt)

pub region3 : (x : Float) (z : ℕ) → Word x z → 236 ≤ z → z ≤ 253 → At 3 170 200 x
region3 x z w g Z =
    let lo : LoGood x (part 3) (part 4) = by-range 238 z (λ k. lo-B x (part 3) (part 4) z 114 143 (bits 193114825 114) (bits 235330325 143) w piece3 piece4 Z (pw 262 149) (within-range x z 238 w k) low3.0 low3.1) (λ k. lo-A x (part 3) (part 4) z 114 143 (bits 193114825 114) (bits 235330325 143) w piece3 piece4 Z (omega arith) (omega arith) (omega arith)) in
    run x (part 3) (part 4) (part 5) (part 6) z 114 143 170 200 (bits 193114825 114) (bits 235330325 143) (bits 43626735 170) (bits 117170203 200) (pw 277 149) (tiny 203) (first 3) w piece3 piece4 piece5 piece6 Z (within-range x z 253 w Z) tests3
    (skipping x z 236 81 (first 3) w g skip3 (record { p = 1; m = 0; is = record { eq = refl } })) tail3 odd6 (lit≤ tt) (lit≤ tt) (lit≤ tt) lo
