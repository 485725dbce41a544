-- What the answers share.
use Rattle.std.proofs.Common.{◌≡◌, ℕ, ◌+◌, ◌/◌, ◌%◌, ◌^◌, ◌<◌, ℤ, pos, ◌-ℤ◌, ap, ◌∙◌, arith, to_z-of_z, w32, w64, SFits, to_z, of_z}
use lib.Signed.{mag}
use mir.Facts.{sfits_widen}
use borrow.Author.Differences.{ints}
use lib.Ieee.{Float, binary64, add, sub, mul, to_signed}
use Rattle.std.specs.Float.{float_round}
use Rattle.reducers.specs.Reduce.{part, exponent_of, nearest_whole, fmla, count, wrapped, reduce_small, reduce_from}

-- the exponent by the field of the word w, as an i32
pub exponent_as : (w b : ℕ) (e : ℤ) → w ≡ b → e ≡ pos (w % 2147483648 / 8388608) -ℤ pos 127 → to_z w32 (of_z w32 (to_z w64 (of_z w64 e))) ≡ exponent_of b
exponent_as w b e W E = ap (λ z. to_z w32 (of_z w32 (to_z w64 (of_z w64 z)))) is ∙ ap (λ z. to_z w32 (of_z w32 z)) (to_z-of_z {w = w64} {z = exponent_of b} (sfits_widen {w = w32} {w' = w64} tt fit)) ∙ to_z-of_z {w = w32} {z = exponent_of b} fit
  where
    same : (b : ℕ) → b % 2147483648 / 8388608 ≡ b / 8388608 % 256
    same b = omega arith

    is : e ≡ exponent_of b
    is = E ∙ ap (λ z. pos (z % 2147483648 / 8388608) -ℤ pos 127) W ∙ ap (λ z. pos z -ℤ pos 127) (same b)

    small : (n : ℕ) → n < 256 → SFits w32 (pos n -ℤ pos 127)
    small n h = omega (arith, ints)

    fit : SFits w32 (exponent_of b)
    fit = small (b / 8388608 % 256) (omega arith)

-- ---- the steps of the code together
pub pair : {a b : Float} {k l : ℤ} → a ≡ b → k ≡ l → ◌≡◌ {A = Float × ℤ} (a, k) (b, l)
pair p q = λ i. (p i, q i)

pub small-joined : (x p0 p1 p2 kd y1 y2 : Float) (k : ℤ) → p0 ≡ part 0 → kd ≡ float_round binary64 (mul binary64 x p0) → p1 ≡ part 1 → y1 ≡ add binary64 (mul binary64 x p1) (sub binary64 (mul binary64 x p0) kd) → p2 ≡ part 2
    → y2 ≡ add binary64 (mul binary64 x p2) y1 → k ≡ to_signed 63 kd → mag k < 2 ^ 63 → ◌≡◌ {A = Float × ℤ} (y2, to_z w64 (of_z w64 k)) (reduce_small x)
unfolding reduce_small
small-joined x p0 p1 p2 kd y1 y2 k a b c d e f g h =
    let D : kd ≡ nearest_whole (mul binary64 x (part 0)) = b ∙ ap (λ p. float_round binary64 (mul binary64 x p)) a in
    let Y1 : y1 ≡ fmla x (part 1) (sub binary64 (mul binary64 x (part 0)) (nearest_whole (mul binary64 x (part 0)))) = d ∙ ap (λ p. fmla x p (sub binary64 (mul binary64 x p0) kd)) c ∙ ap (λ p. fmla x (part 1) (sub binary64 (mul binary64 x p) kd)) a ∙ ap (λ v. fmla x (part 1) (sub binary64 (mul binary64 x (part 0)) v)) D in
    pair (f ∙ ap (λ p. fmla x p y1) e ∙ ap (λ v. fmla x (part 2) v) Y1) (to_z-of_z {w = w64} {z = k} (record { sfits = h }) ∙ g ∙ ap count D)

pub large-joined : (x p0 p1 p2 p3 kh lo kl y1 y2 : Float) (i : ℕ) (a b k : ℤ) → p0 ≡ part i → kh ≡ float_round binary64 (mul binary64 x p0) → p1 ≡ part (i + 1) → lo ≡ add binary64 (mul binary64 x p1) (sub binary64 (mul binary64 x p0) kh) → kl ≡ float_round binary64 lo
    → p2 ≡ part (i + 2) → y1 ≡ add binary64 (mul binary64 x p2) (sub binary64 lo kl) → p3 ≡ part (i + 3) → y2 ≡ add binary64 (mul binary64 x p3) y1 → a ≡ to_signed 63 kh → b ≡ to_signed 63 kl → k ≡ wrapped a b → ◌≡◌ {A = Float × ℤ} (y2, k) (reduce_from i x)
unfolding reduce_from
large-joined x p0 p1 p2 p3 kh lo kl y1 y2 i a b k P0 KH P1 LO KL P2 Y1 P3 Y2 A B K =
    let c0 = part i in
    let c1 = part (i + 1) in
    let hi = mul binary64 x c0 in
    let H : kh ≡ nearest_whole hi = KH ∙ ap (λ p. float_round binary64 (mul binary64 x p)) P0 in
    let lo' = fmla x c1 (sub binary64 hi (nearest_whole hi)) in
    let L : lo ≡ lo' = LO ∙ ap (λ p. fmla x p (sub binary64 (mul binary64 x p0) kh)) P1 ∙ ap (λ p. fmla x c1 (sub binary64 (mul binary64 x p) kh)) P0 ∙ ap (λ v. fmla x c1 (sub binary64 hi v)) H in
    let M : kl ≡ nearest_whole lo' = KL ∙ ap (λ v. float_round binary64 v) L in
    let Y : y1 ≡ fmla x (part (i + 2)) (sub binary64 lo' (nearest_whole lo')) = Y1 ∙ ap (λ p. fmla x p (sub binary64 lo kl)) P2 ∙ ap (λ v. fmla x (part (i + 2)) (sub binary64 v kl)) L ∙ ap (λ v. fmla x (part (i + 2)) (sub binary64 lo' v)) M in
    pair (Y2 ∙ ap (λ p. fmla x p y1) P3 ∙ ap (λ v. fmla x (part (i + 3)) v) Y) (K ∙ ap (λ z. wrapped z b) (A ∙ ap count H) ∙ ap (λ z. wrapped (count (nearest_whole hi)) z) (B ∙ ap count M))
