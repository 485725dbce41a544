-- The sine, the cosine and the tangent of an f32 in radians. Definitions only.
use Rattle.std.specs.Prelude.{ℕ, cond, ◌==◌, from_bits, nat_le, nat_lt, Float}
use Rattle.std.specs.Float.{nan, binary32, binary64}
use Rattle.std.specs.Float.Ieee.{mul}
use Rattle.forms.specs.Polyeval.{polyeval5}
use Rattle.reducers.specs.Reduce.{reduce}
use Rattle.formulas.specs.Words.{size_bits, fmla, narrowed, one, minus_tiny, sine_at, cosine_at, tangent_at}

-- sin(x)/x on [0, π/16], even powers up to 8, the first coefficient 1
abbrev pub sin_x2 : Float
sin_x2 = from_bits binary64 0xbfc55555555554c6

-- of x⁴
abbrev pub sin_x4 : Float
sin_x4 = from_bits binary64 0x3f81111111085e65

-- of x⁶
abbrev pub sin_x6 : Float
sin_x6 = from_bits binary64 0xbf2a019f70fb4d4f

-- of x⁸
abbrev pub sin_x8 : Float
sin_x8 = from_bits binary64 0x3ec718d179815e74

-- sin(x) for |x| ≤ π/16, in any arithmetic
abbrev pub sin_near_in : {A : Type 0} → (A → A → A → A) → (A → A → A) → (Float → A) → A → A
sin_near_in mla product own x = product x (polyeval5 mla (product x x) (own one) (own sin_x2) (own sin_x4) (own sin_x6) (own sin_x8))

-- in f64
abbrev pub sin_near : Float → Float
sin_near = sin_near_in fmla (mul binary64) (λ a. a)

-- cos(x) on [0, π/16], even powers up to 8, the first coefficient 1
abbrev pub cos_x2 : Float
cos_x2 = from_bits binary64 0xbfdffffffffffcea

-- of x⁴
abbrev pub cos_x4 : Float
cos_x4 = from_bits binary64 0x3fa55555553d611a

-- of x⁶
abbrev pub cos_x6 : Float
cos_x6 = from_bits binary64 0xbf56c16b2e26561a

-- of x⁸
abbrev pub cos_x8 : Float
cos_x8 = from_bits binary64 0x3ef9faa67b9da80b

-- cos(x) for |x| ≤ π/16, in any arithmetic
abbrev pub cos_near_in : {A : Type 0} → (A → A → A → A) → (A → A → A) → (Float → A) → A → A
cos_near_in mla product own x = polyeval5 mla (product x x) (own one) (own cos_x2) (own cos_x4) (own cos_x6) (own cos_x8)

-- in f64
abbrev pub cos_near : Float → Float
cos_near = cos_near_in fmla (mul binary64) (λ a. a)

-- tan(x)/x on [0, π/32], even powers up to 8, the first coefficient 1
abbrev pub tan_x2 : Float
tan_x2 = from_bits binary64 0x3fd555555553d022

-- of x⁴
abbrev pub tan_x4 : Float
tan_x4 = from_bits binary64 0x3fc111111ce442c1

-- of x⁶
abbrev pub tan_x6 : Float
tan_x6 = from_bits binary64 0x3faba180a6bbdecd

-- of x⁸
abbrev pub tan_x8 : Float
tan_x8 = from_bits binary64 0x3f969c0a88a0b71f

-- tan(x) for |x| ≤ π/32, in any arithmetic
abbrev pub tan_near_in : {A : Type 0} → (A → A → A → A) → (A → A → A) → (Float → A) → A → A
tan_near_in mla product own x = product x (polyeval5 mla (product x x) (own one) (own tan_x2) (own tan_x4) (own tan_x6) (own tan_x8))

-- in f64
abbrev pub tan_near : Float → Float
tan_near = tan_near_in fmla (mul binary64) (λ a. a)

-- the word of infinity: no finite word without its sign reaches it
abbrev pub infinite : ℕ
infinite = 0x7f800000

-- sine: zero itself, below 0x39e89769 a line, to π/16 a polynomial, else by the table
unfoldable pub sinf : Float → Float
sinf x =
    cond (nat_le (size_bits x) 0x3e490fdb)
    (cond (nat_lt (size_bits x) 0x39e89769)
    (cond (size_bits x == 0) x (narrowed (fmla x minus_tiny x)))
    (narrowed (sin_near x)))
    (cond (nat_le infinite (size_bits x)) nan (narrowed (sine_at (reduce x (size_bits x)))))

-- cosine of the float of the word w, which has no sign: below 2 ^ -12 a line, to π/16 a polynomial, else by the table
unfoldable pub cos_of : ℕ → Float
cos_of w =
    cond (nat_le w 0x3e490fdb)
    (cond (nat_lt w 0x39800000) (narrowed (fmla (from_bits binary32 w) minus_tiny one)) (narrowed (cos_near (from_bits binary32 w))))
    (cond (nat_le infinite w) nan (narrowed (cosine_at (reduce (from_bits binary32 w) w))))

-- cosine: the sign does not matter
abbrev pub cosf : Float → Float
cosf x = cos_of (size_bits x)

-- tangent: zero itself, below 2 ^ -12 a line, to π/32 a polynomial, else by the table
unfoldable pub tanf : Float → Float
tanf x =
    cond (nat_le (size_bits x) 0x3dc90fdb)
    (cond (nat_lt (size_bits x) 0x39800000)
    (cond (size_bits x == 0) x (narrowed (fmla x minus_tiny x)))
    (narrowed (tan_near x)))
    (cond (nat_le infinite (size_bits x)) nan (narrowed (tangent_at (reduce x (size_bits x)))))
