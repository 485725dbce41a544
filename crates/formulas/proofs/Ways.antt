-- The ways through each definition, by the word.
use Rattle.std.proofs.Common.{◌≡◌, ℕ, ◌%◌, ◌<◌, ◌≤◌, Bool, true, false, cond, ◌&&◌, ◌||◌, eqb, leb, refl, ap, ◌∙◌, arith, le-ltb, lt-ltb, ne_eqb, le-leb}
use lib.Ieee.{Float, nan, inf, binary32, binary64, of_bits, mul, neg, eq}
use Rattle.rounding.specs.Bits.{whole_bits, odd_bits}
use Rattle.reducers.specs.Reduce.{reduce, reduce_pi, reduce_quarter}
use Rattle.reducers.specs.Exact.{mod_turn}
use Rattle.table.specs.Tangents.{tangent64}
use Rattle.formulas.specs.Words.{size_bits, fmla, narrowed, one, zero64, minus_tiny, zero_of, sine_at, cosine_at, tangent_at}
use Rattle.formulas.specs.Radians.{sin_near, cos_near, tan_near, infinite, sinf, cos_of, tanf}
use Rattle.formulas.specs.HalfTurns.{pi, minus_pi3_over6, pi3_over3, sinpi_near, cospi_near, sine_by, cosine_by, by_quarter, sinpif, cospi_of, tanpi_by, tanpi_at, tanpif}
use borrow.Author.Tests.{lt-leb}

-- ---- sinf
pub sinf-zero : (x : Float) → size_bits x ≡ 0 → sinf x ≡ x
unfolding sinf
sinf-zero x e = rw e refl

pub sinf-line : (x : Float) → (size_bits x ≡ 0 → ⊥) → size_bits x < 0x39e89769 → sinf x ≡ narrowed (fmla x minus_tiny x)
unfolding sinf
sinf-line x n h = rw (le-leb (size_bits x) 0x3e490fdb (omega arith), lt-ltb (size_bits x) 0x39e89769 h, ne_eqb (size_bits x) 0 n) refl

pub sinf-near : (x : Float) → 0x39e89769 ≤ size_bits x → size_bits x ≤ 0x3e490fdb → sinf x ≡ narrowed (sin_near x)
unfolding sinf
sinf-near x h k = rw (le-leb (size_bits x) 0x3e490fdb k, le-ltb (size_bits x) 0x39e89769 h) refl

pub sinf-nan : (x : Float) → infinite ≤ size_bits x → sinf x ≡ nan
unfolding sinf
sinf-nan x h = rw (lt-leb (size_bits x) 0x3e490fdb (omega arith), le-leb infinite (size_bits x) h) refl

pub sinf-far : (x : Float) → 0x3e490fdb < size_bits x → size_bits x < infinite → sinf x ≡ narrowed (sine_at (reduce x (size_bits x)))
unfolding sinf
sinf-far x h k = rw (lt-leb (size_bits x) 0x3e490fdb h, lt-leb infinite (size_bits x) k) refl

-- ---- cosf
pub cosf-line : (w : ℕ) → w < 0x39800000 → cos_of w ≡ narrowed (fmla (of_bits binary32 w) minus_tiny one)
unfolding cos_of
cosf-line w h = rw (le-leb w 0x3e490fdb (omega arith), lt-ltb w 0x39800000 h) refl

pub cosf-near : (w : ℕ) → 0x39800000 ≤ w → w ≤ 0x3e490fdb → cos_of w ≡ narrowed (cos_near (of_bits binary32 w))
unfolding cos_of
cosf-near w h k = rw (le-leb w 0x3e490fdb k, le-ltb w 0x39800000 h) refl

pub cosf-nan : (w : ℕ) → infinite ≤ w → cos_of w ≡ nan
unfolding cos_of
cosf-nan w h = rw (lt-leb w 0x3e490fdb (omega arith), le-leb infinite w h) refl

pub cosf-far : (w : ℕ) → 0x3e490fdb < w → w < infinite → cos_of w ≡ narrowed (cosine_at (reduce (of_bits binary32 w) w))
unfolding cos_of
cosf-far w h k = rw (lt-leb w 0x3e490fdb h, lt-leb infinite w k) refl

-- ---- tanf
pub tanf-zero : (x : Float) → size_bits x ≡ 0 → tanf x ≡ x
unfolding tanf
tanf-zero x e = rw e refl

pub tanf-line : (x : Float) → (size_bits x ≡ 0 → ⊥) → size_bits x < 0x39800000 → tanf x ≡ narrowed (fmla x minus_tiny x)
unfolding tanf
tanf-line x n h = rw (le-leb (size_bits x) 0x3dc90fdb (omega arith), lt-ltb (size_bits x) 0x39800000 h, ne_eqb (size_bits x) 0 n) refl

pub tanf-near : (x : Float) → 0x39800000 ≤ size_bits x → size_bits x ≤ 0x3dc90fdb → tanf x ≡ narrowed (tan_near x)
unfolding tanf
tanf-near x h k = rw (le-leb (size_bits x) 0x3dc90fdb k, le-ltb (size_bits x) 0x39800000 h) refl

pub tanf-nan : (x : Float) → infinite ≤ size_bits x → tanf x ≡ nan
unfolding tanf
tanf-nan x h = rw (lt-leb (size_bits x) 0x3dc90fdb (omega arith), le-leb infinite (size_bits x) h) refl

pub tanf-far : (x : Float) → 0x3dc90fdb < size_bits x → size_bits x < infinite → tanf x ≡ narrowed (tangent_at (reduce x (size_bits x)))
unfolding tanf
tanf-far x h k = rw (lt-leb (size_bits x) 0x3dc90fdb h, lt-leb infinite (size_bits x) k) refl

-- ---- sinpif
pub sinpif-zero : (x : Float) → size_bits x ≡ 0 → sinpif x ≡ x
unfolding sinpif
sinpif-zero x e = rw e refl

pub sinpif-tiny : (x : Float) → (size_bits x ≡ 0 → ⊥) → size_bits x < 0x35802126 → sinpif x ≡ narrowed (mul binary64 x (fmla (mul binary64 x x) minus_pi3_over6 pi))
unfolding sinpif
sinpif-tiny x n h = rw (le-leb (size_bits x) 0x3d800000 (omega arith), lt-ltb (size_bits x) 0x35802126 h, ne_eqb (size_bits x) 0 n) refl

pub sinpif-near : (x : Float) → 0x35802126 ≤ size_bits x → size_bits x ≤ 0x3d800000 → sinpif x ≡ narrowed (sinpi_near x)
unfolding sinpif
sinpif-near x h k = rw (le-leb (size_bits x) 0x3d800000 k, le-ltb (size_bits x) 0x35802126 h) refl

pub sinpif-nan : (x : Float) → infinite ≤ size_bits x → sinpif x ≡ nan
unfolding sinpif
sinpif-nan x h = rw (lt-leb (size_bits x) 0x3d800000 (omega arith), le-leb infinite (size_bits x) h) refl

pub sinpif-rest : (x : Float) (t : Bool) → 0x3d800000 < size_bits x → size_bits x < infinite → (leb 0x4b000000 (size_bits x) || whole_bits x) ≡ t → sinpif x ≡ cond t (zero_of x) (narrowed (by_quarter sine_by (reduce_quarter x)))
unfolding sinpif
sinpif-rest x t h k e = rw (lt-leb (size_bits x) 0x3d800000 h, lt-leb infinite (size_bits x) k) (ap (λ z. cond z (zero_of x) (narrowed (by_quarter sine_by (reduce_quarter x)))) e)

-- ---- cospif
pub cospif-line : (w : ℕ) → w < 0x38a2f984 → cospi_of w ≡ narrowed (fmla (of_bits binary32 w) minus_tiny one)
unfolding cospi_of
cospif-line w h = rw (le-leb w 0x3d800000 (omega arith), lt-ltb w 0x38a2f984 h) refl

pub cospif-near : (w : ℕ) → 0x38a2f984 ≤ w → w ≤ 0x3d800000 → cospi_of w ≡ narrowed (cospi_near (of_bits binary32 w))
unfolding cospi_of
cospif-near w h k = rw (le-leb w 0x3d800000 k, le-ltb w 0x38a2f984 h) refl

pub cospif-nan : (w : ℕ) → infinite ≤ w → cospi_of w ≡ nan
unfolding cospi_of
cospif-nan w h = rw (lt-leb w 0x3d800000 (omega arith), le-leb infinite w h) refl

-- 1 or -1
abbrev pub unit : Bool → Float
unit t = cond t (neg (of_bits binary32 0x3f800000)) (of_bits binary32 0x3f800000)

pub cospif-rest : (w : ℕ) (t : Bool) → 0x3d800000 < w → w < infinite → (leb 0x4b000000 w || whole_bits (of_bits binary32 w)) ≡ t → cospi_of w ≡ cond t (unit (odd_bits (of_bits binary32 w))) (narrowed (by_quarter cosine_by (reduce_quarter (of_bits binary32 w))))
unfolding cospi_of
cospif-rest w t h k e =
    rw (lt-leb w 0x3d800000 h, lt-leb infinite w k) (ap (λ z. cond z (unit (odd_bits (of_bits binary32 w))) (narrowed (by_quarter cosine_by (reduce_quarter (of_bits binary32 w))))) e)

or_right : (a : Bool) → (a || true) ≡ true
or_right true = refl
or_right false = refl

-- whole by the size or by the digits
pub large-whole : (w : ℕ) (b : Bool) → 0x4b000000 ≤ w → (leb 0x4b000000 w || b) ≡ true
large-whole w b h = ap (λ z. z || b) (le-leb 0x4b000000 w h)

pub digits-whole : (w : ℕ) (b : Bool) → b ≡ true → (leb 0x4b000000 w || b) ≡ true
digits-whole w b e = ap (λ z. leb 0x4b000000 w || z) e ∙ or_right (leb 0x4b000000 w)

pub not_whole : (w : ℕ) (b : Bool) → w < 0x4b000000 → b ≡ false → (leb 0x4b000000 w || b) ≡ false
not_whole w b h e = ap (λ z. z || b) (lt-leb 0x4b000000 w h) ∙ e

-- ---- tanpif
pub tanpi_tiny : (x y : Float) (k : ℕ) → size_bits x < 0x38d1b717 → tanpi_by x y k ≡ narrowed (mul binary64 (fmla (mul binary64 x x) pi3_over3 pi) x)
unfolding tanpi_by
tanpi_tiny x y k h = rw (lt-ltb (size_bits x) 0x38d1b717 h) refl

pub tanpi_table : (x y : Float) (k : ℕ) → 0x38d1b717 ≤ size_bits x → tanpi_by x y k ≡ narrowed (tangent64 y k)
unfolding tanpi_by
tanpi_table x y k h = rw (le-ltb (size_bits x) 0x38d1b717 h) refl

pub tanpif-nan : (x : Float) → infinite ≤ size_bits x → tanpif x ≡ nan
unfolding tanpif
tanpif-nan x h = rw (le-leb infinite (size_bits x) h) refl

pub tanpif-even : (x : Float) → 0x4b800000 ≤ size_bits x → size_bits x < infinite → tanpif x ≡ zero_of x
unfolding tanpif
tanpif-even x h k = rw (lt-leb infinite (size_bits x) k, le-leb 0x4b800000 (size_bits x) h) refl

pub tanpif-rest : (x : Float) → size_bits x < 0x4b800000 → tanpif x ≡ tanpi_at x (reduce_pi x).0 (mod_turn (reduce_pi x).1)
unfolding tanpif
tanpif-rest x h = rw (lt-leb infinite (size_bits x) (omega arith), lt-leb 0x4b800000 (size_bits x) h) refl

-- ---- quarters
pub quarter-at : (f : ℕ → Float → Float) (x : Float) (r : Float × lib.IntN.ℤ) (j : ℕ) → r ≡ reduce_quarter x → j ≡ mod_turn r.1 → f (j % 4) r.0 ≡ by_quarter f (reduce_quarter x)
quarter-at f x r j e h = ap (λ z. f (z % 4) r.0) h ∙ ap (by_quarter f) e

-- ---- exact tangents
module _ (x y : Float) (k : ℕ) where
  -- k is not 0, 16, 8 or 24 modulo 32, or y is not zero
  abbrev after : Float
  after = cond (eq y zero64 && eqb (k % 32) 24) (neg (of_bits binary32 0x3f800000)) (tanpi_by x y k)

  pub tangent_whole : eq y zero64 ≡ true → k % 32 ≡ 0 → tanpi_at x y k ≡ cond (leb 32 k) (neg (zero_of x)) (zero_of x)
  unfolding tanpi_at
  tangent_whole e h = rw (e, h) refl

  pub tangent_half : eq y zero64 ≡ true → k % 32 ≡ 16 → tanpi_at x y k ≡ inf (leb 32 k)
  unfolding tanpi_at
  tangent_half e h = rw (e, h) refl

  pub tangent_quarter : eq y zero64 ≡ true → k % 32 ≡ 8 → tanpi_at x y k ≡ of_bits binary32 0x3f800000
  unfolding tanpi_at
  tangent_quarter e h = rw (e, h) refl

  pub tangent_quarters : eq y zero64 ≡ true → k % 32 ≡ 24 → tanpi_at x y k ≡ neg (of_bits binary32 0x3f800000)
  unfolding tanpi_at
  tangent_quarters e h = rw (e, h) refl

  pub tangent_other : eq y zero64 ≡ false → tanpi_at x y k ≡ tanpi_by x y k
  unfolding tanpi_at
  tangent_other e = rw e refl

  pub tangent_between : (k % 32 ≡ 0 → ⊥) → (k % 32 ≡ 16 → ⊥) → (k % 32 ≡ 8 → ⊥) → (k % 32 ≡ 24 → ⊥) → tanpi_at x y k ≡ tanpi_by x y k
  unfolding tanpi_at
  tangent_between a b c d = rw (ne_eqb (k % 32) 0 a, ne_eqb (k % 32) 16 b, ne_eqb (k % 32) 8 c, ne_eqb (k % 32) 24 d) (go (eq y zero64))
    where
      go : (t : Bool) → cond (t && false) (cond (leb 32 k) (neg (zero_of x)) (zero_of x)) (cond (t && false) (inf (leb 32 k)) (cond (t && false) (of_bits binary32 0x3f800000) (cond (t && false) (neg (of_bits binary32 0x3f800000)) (tanpi_by x y k)))) ≡ tanpi_by x y k
      go true = refl
      go false = refl
