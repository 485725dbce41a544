-- The two reducers as they compute, operation by operation, each rounded once. Definitions only.
use Rattle.std.specs.Prelude.{ℕ, suc, ◌+◌, ◌/◌, ◌%◌, ◌^◌, Bool, cond, List, [], ◌∷◌, take, ℤ, pos, negsuc, ◌+ℤ◌, ◌-ℤ◌, from_bits, int_lt, nat_lt, slice_index, Float}
use Rattle.std.specs.Float.Ieee.{add, sub, mul, neg, to_signed}
use Rattle.std.specs.Int.{w64}
use Rattle.std.proofs.Common.{of_z, to_z}
use Rattle.std.specs.Float.{float_round, binary64}

-- 32/π in eight parts: the patterns of the f64 values
abbrev pub patterns : List ℕ
patterns = 4621923779197534208 ∷ 13707580396609208320 ∷ 4351594681813958656 ∷ 13440717546709843968 ∷ 4088157637785419776 ∷ 13178884391310458880 ∷ 13050287680082935808 ∷ 3690201532054918683 ∷ []

-- the i-th part
abbrev pub part : ℕ → Float
part i = from_bits binary64 (slice_index patterns i)

-- a * b + c, each rounded once
abbrev pub fmla : Float → Float → Float → Float
fmla a b c = add binary64 (mul binary64 a b) c

-- the nearest whole number, halves away from zero
abbrev pub nearest_whole : Float → Float
nearest_whole = float_round binary64

-- as an i64
abbrev pub count : Float → ℤ
count = to_signed 63

-- a + b modulo 2 ^ 64
abbrev pub wrapped : ℤ → ℤ → ℤ
wrapped a b = to_z w64 ((of_z w64 a + of_z w64 b) % 2 ^ 64)

-- the reducer of floats below 2 ^ 22
unfoldable pub reduce_small : Float → Float × ℤ
reduce_small x =
    let prod = mul binary64 x (part 0) in
    let k = nearest_whole prod in
    (fmla x (part 2) (fmla x (part 1) (sub binary64 prod k)), count k)

-- by the parts from the i-th on
unfoldable pub reduce_from : ℕ → Float → Float × ℤ
reduce_from i x =
    let hi = mul binary64 x (part i) in
    let kh = nearest_whole hi in
    let lo = fmla x (part (i + 1)) (sub binary64 hi kh) in
    let kl = nearest_whole lo in
    (fmla x (part (i + 3)) (fmla x (part (i + 2)) (sub binary64 lo kl)), wrapped (count kh) (count kl))

-- the exponents of the lowest bits of the parts, the last part cut short
abbrev pub lowest : List ℤ
lowest = negsuc 23 ∷ negsuc 54 ∷ negsuc 80 ∷ negsuc 113 ∷ negsuc 142 ∷ negsuc 169 ∷ negsuc 199 ∷ negsuc 229 ∷ []

-- those of the parts that may be skipped: four are always left
abbrev pub leading : List ℤ
leading = take 4 lowest

-- the product of a float of the exponent e and a part of the lowest bit l is a multiple of 64
abbrev pub whole_turns : ℤ → ℤ → Bool
whole_turns e l = int_lt (pos 5) (e -ℤ pos 23 +ℤ l)

-- how many such parts lead the list
abbrev pub skips : List ℤ → ℤ → ℕ
skips [] e = 0
skips (l ∷ ls) e = cond (whole_turns e l) (suc (skips ls e)) 0

-- the reducer of larger floats, of the exponent e
abbrev pub reduce_large : Float → ℤ → Float × ℤ
reduce_large x e = reduce_from (skips leading e) x

-- the exponent of the f32 whose pattern is b
abbrev pub exponent_of : ℕ → ℤ
exponent_of b = pos (b / 8388608 % 256) -ℤ pos 127

-- the reducer of the float x whose pattern without its sign is b
abbrev pub reduce : Float → ℕ → Float × ℤ
reduce x b = cond (nat_lt b 1249902592) (reduce_small x) (reduce_large x (exponent_of b))

-- ---- half turns
-- 32
abbrev pub thirtytwo : Float
thirtytwo = from_bits binary64 4629700416936869888

-- -1 / 2
abbrev pub minus_half : Float
minus_half = neg (from_bits binary64 4602678819172646912)

-- by steps, 32 to a half turn
unfoldable pub reduce_pi : Float → Float × ℤ
reduce_pi x =
    let k = nearest_whole (mul binary64 x thirtytwo) in
    (fmla x thirtytwo (neg k), count k)

-- by quarter turns
unfoldable pub reduce_quarter : Float → Float × ℤ
reduce_quarter x =
    let k = nearest_whole (add binary64 x x) in
    (fmla k minus_half x, count k)
