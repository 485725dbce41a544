-- The sine, the cosine and the tangent of an f32 in half turns. Definitions only.
use Rattle.std.specs.Prelude.{ℕ, zero, suc, ◌%◌, cond, ◌&&◌, ◌||◌, ℤ, ◌==◌, from_bits, nat_le, nat_lt, Float}
use Rattle.std.specs.Float.{nan, inf, binary32, binary64}
use Rattle.std.specs.Float.Ieee.{mul, neg, eq}
use Rattle.rounding.specs.Bits.{whole_bits, odd_bits}
use Rattle.forms.specs.Polyeval.{polyeval5, polyeval6, estrin7}
use Rattle.reducers.specs.Reduce.{reduce_pi, reduce_quarter}
use Rattle.reducers.specs.Exact.{mod_turn}
use Rattle.table.specs.Tangents.{tangent64}
use Rattle.formulas.specs.Words.{size_bits, fmla, narrowed, one, zero64, minus_tiny, zero_of}
use Rattle.formulas.specs.Radians.{infinite}

-- an f64 by its bits
abbrev c : ℕ → Float
c = from_bits binary64

-- π
abbrev pub pi : Float
pi = c 0x400921fb54442d18

-- -π³/6
abbrev pub minus_pi3_over6 : Float
minus_pi3_over6 = c 0xc014abbce625be53

-- π³/3
abbrev pub pi3_over3 : Float
pi3_over3 = c 0x4024abbce625be53

-- sin(πy) on [-1/4, 1/4]: sin(πy)/y by even powers up to 10, in any arithmetic
abbrev pub sinpi_y_in : {A : Type 0} → (A → A → A → A) → (A → A → A) → (Float → A) → A → A
sinpi_y_in mla product own y = product (polyeval6 mla product (product y y) (own (c 0x400921fb54442cf8)) (own (c 0xc014abbce6257778)) (own (c 0x400466bc670fa464)) (own (c 0xbfe32d2c627f47da)) (own (c 0x3fb5071be0a2d3da)) (own (c 0xbf7dd4e0ae5b9fcd))) y

-- in f64
unfoldable pub sinpi_y : Float → Float
sinpi_y = sinpi_y_in fmla (mul binary64) (λ a. a)

-- cos(πy) on [-1/4, 1/4]: even powers up to 12, the first coefficient 1, in any arithmetic
abbrev pub cospi_y_in : {A : Type 0} → (A → A → A → A) → (A → A → A) → (Float → A) → A → A
cospi_y_in mla product own y = estrin7 mla product (product y y) (own one) (own (c 0xc013bd3cc9be459b)) (own (c 0x40103c1f081b0c98)) (own (c 0xbff55d3c7dc25308)) (own (c 0x3fce1f4fb6e12563)) (own (c 0xbf9a6c9c101c1182)) (own (c 0x3f5f3d9faffda250))

-- in f64
unfoldable pub cospi_y : Float → Float
cospi_y = cospi_y_in fmla (mul binary64) (λ a. a)

-- sin(πx) for |x| ≤ 1/16: sin(πx)/x by even powers up to 8, in any arithmetic
abbrev pub sinpi_near_in : {A : Type 0} → (A → A → A → A) → (A → A → A) → (Float → A) → A → A
sinpi_near_in mla product own x = product x (polyeval5 mla (product x x) (own pi) (own (c 0xc014abbce625bbf2)) (own (c 0x400466bc675e116a)) (own (c 0xbfe32d2c0b62d41c)) (own (c 0x3fb501ec4497cb7d)))

-- in f64
unfoldable pub sinpi_near : Float → Float
sinpi_near = sinpi_near_in fmla (mul binary64) (λ a. a)

-- cos(πx) for |x| ≤ 1/16: even powers up to 8, the first coefficient 1, in any arithmetic
abbrev pub cospi_near_in : {A : Type 0} → (A → A → A → A) → (A → A → A) → (Float → A) → A → A
cospi_near_in mla product own x = polyeval5 mla (product x x) (own one) (own (c 0xc013bd3cc9be43f7)) (own (c 0x40103c1f08091fe0)) (own (c 0xbff55d3ba3d94835)) (own (c 0x3fce173c2a00e74e))

-- in f64
unfoldable pub cospi_near : Float → Float
cospi_near = cospi_near_in fmla (mul binary64) (λ a. a)

-- sin(π (k/2 + y)), by k modulo 4
abbrev pub sine_by : ℕ → Float → Float
sine_by zero y = sinpi_y y
sine_by (suc zero) y = cospi_y y
sine_by (suc (suc zero)) y = sinpi_y (neg y)
sine_by (suc (suc (suc k))) y = neg (cospi_y y)

-- cos(π (k/2 + y)) alike; at halves it is +0
abbrev pub cosine_by : ℕ → Float → Float
cosine_by zero y = cospi_y y
cosine_by (suc zero) y = cond (eq y zero64) zero64 (sinpi_y (neg y))
cosine_by (suc (suc zero)) y = neg (cospi_y y)
cosine_by (suc (suc (suc k))) y = sinpi_y y

-- f of k modulo 4 and y
abbrev pub by_quarter : (ℕ → Float → Float) → Float × ℤ → Float
by_quarter f r = f (mod_turn r.1 % 4) r.0

-- sin(πx): zero itself, below 0x35802126 two terms, to 1/16 a polynomial; zero with the sign of x at whole numbers, else by quarter turns
unfoldable pub sinpif : Float → Float
sinpif x =
    cond (nat_le (size_bits x) 0x3d800000)
    (cond (nat_lt (size_bits x) 0x35802126)
    (cond (size_bits x == 0) x (narrowed (mul binary64 x (fmla (mul binary64 x x) minus_pi3_over6 pi))))
    (narrowed (sinpi_near x)))
    (cond (nat_le infinite (size_bits x)) nan
    (cond (nat_le 0x4b000000 (size_bits x) || whole_bits x) (zero_of x) (narrowed (by_quarter sine_by (reduce_quarter x)))))

-- cos(πx) of the float of the word w, which has no sign: below 0x38a2f984 a line, to 1/16 a polynomial; 1 or -1 at whole numbers, else by quarter turns
unfoldable pub cospi_of : ℕ → Float
cospi_of w =
    let x = from_bits binary32 w in
    cond (nat_le w 0x3d800000)
    (cond (nat_lt w 0x38a2f984) (narrowed (fmla x minus_tiny one)) (narrowed (cospi_near x)))
    (cond (nat_le infinite w) nan
    (cond (nat_le 0x4b000000 w || whole_bits x)
    (cond (odd_bits x) (neg (from_bits binary32 0x3f800000)) (from_bits binary32 0x3f800000))
    (narrowed (by_quarter cosine_by (reduce_quarter x)))))

-- cos(πx): the sign does not matter
abbrev pub cospif : Float → Float
cospif x = cospi_of (size_bits x)

-- tan(πx) of k steps and y: below 0x38d1b717 two terms, else by the table
unfoldable pub tanpi_by : Float → Float → ℕ → Float
tanpi_by x y k =
    cond (nat_lt (size_bits x) 0x38d1b717)
    (narrowed (mul binary64 (fmla (mul binary64 x x) pi3_over3 pi) x))
    (narrowed (tangent64 y k))

-- the same with the exact values at quarters: ±0 at whole numbers, the sign of x if even, its opposite if odd; an infinity at halves, positive after an even number; 1 and -1 between
unfoldable pub tanpi_at : Float → Float → ℕ → Float
tanpi_at x y k =
    cond (eq y zero64 && k % 32 == 0) (cond (nat_le 32 k) (neg (zero_of x)) (zero_of x))
    (cond (eq y zero64 && k % 32 == 16) (inf (nat_le 32 k))
    (cond (eq y zero64 && k % 32 == 8) (from_bits binary32 0x3f800000)
    (cond (eq y zero64 && k % 32 == 24) (neg (from_bits binary32 0x3f800000))
    (tanpi_by x y k))))

-- tan(πx): from 2 ^ 24 on all are even whole numbers
unfoldable pub tanpif : Float → Float
tanpif x =
    cond (nat_le infinite (size_bits x)) nan
    (cond (nat_le 0x4b800000 (size_bits x)) (zero_of x)
    (let r = reduce_pi x in tanpi_at x r.0 (mod_turn r.1)))
