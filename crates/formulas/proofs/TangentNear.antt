-- The polynomials and lines of the tangents, times the series of the cosine, apart that of the sine.
use Rattle.std.proofs.Common.{T}
use lib.Count.{count_trailing_zeros}
use lib.Ieee.{Float, binary64, of_bits, of_fields, odd, size, mul}
use lib.Ieee.Scale.{finite}
use Rattle.exact.specs.Fraction.{Fraction, ◌⊑◌, ◌⊕◌, ◌⊗◌, whole, frac, tiny, Size, Within, leq}
use Rattle.exact.specs.Straight.{Exp, var as arg, scan, run}
use Rattle.exact.specs.Value.{value_of, Good, Held}
use Rattle.exact.proofs.Order.{by-test, ≈-refl, ⊕-neg, ⊕-cong, ⊗-cong, neg_cong, size-≈, size-⊑, size-near, size→within, triangle, within-⊑, within-mul-right}
use Rattle.exact.proofs.Poly.{Expr, var, con, ◌:*◌, ◌:-◌, val, small}
use Rattle.exact.proofs.Bound.{bound}
use Rattle.circle.specs.Series.{sin_series, cos_series}
use Rattle.circle.specs.Circle.{step}
use Rattle.circle.proofs.Sines.{sin_e, cos_e, sin_is, cos_is}
use Rattle.circle.proofs.Steady.{cos_one}
use Rattle.circle.proofs.Turn.{small-step}
use Rattle.forms.specs.Polyeval.{polyeval4}
use Rattle.table.specs.Tangents.{tan0, tan1, tan2, tan3, tan_of_y}
use Rattle.formulas.specs.Words.{fmla, minus_tiny}
use Rattle.formulas.specs.Radians.{tan_near_in, tan_near}
use Rattle.formulas.specs.HalfTurns.{pi, pi3_over3}
use Rattle.formulas.specs.Polynomials.{TangentSeries}
use Rattle.formulas.proofs.Angles.{half_turns}
use Rattle.formulas.proofs.Trees.{own, square, mla_e, mul_e, meant, one, only, sound, apart, plainly}
use Rattle.formulas.proofs.Near.{below_twelve, zero-sound}
use Rattle.formulas.proofs.TangentNarrowed.{no_size}

-- the angle of a half turn
abbrev angle : Expr
angle = con (whole 32) :* con step

-- z is finite and at most 2 in size, and z times the series of the cosine is within e of that of the sine
pub record Ratio (z : Float) (t e : Fraction) : Type 0 where
  pub fin : T (finite z)
  pub size : Size (value_of z) (whole 2)
  pub near : Within (value_of z ⊗ cos_series t) (sin_series t) e

module _ (x : Float) (b : Fraction) (H : Held x b) (t : Exp) where
  -- the code within e of what it means
  plain : (e : Fraction) → T (sound x b H t e) → Good (run (only x b H) t) (val (one (value_of x) b) (meant t)) (e ⊕ whole 0)
  plain e k = apart x b H t (meant t) (val (one (value_of x) b) (meant t)) e (whole 0) k (no_size (⊕-neg (val (one (value_of x) b) (meant t)))) (≈-refl (val (one (value_of x) b) (meant t)))

  ratio : (g : Expr) (e d : Fraction) → T (sound x b H t e) → T (small (one (value_of x) b) d (meant t :* cos_e g :- sin_e g)) → T (small (one (value_of x) b) (whole 1) (meant t)) → whole 1 ⊕ (e ⊕ whole 0) ⊑ whole 2 → Size (val (one (value_of x) b) g) (frac 4 5)
      → Ratio (run (only x b H) t) (val (one (value_of x) b) g) ((e ⊕ whole 0) ⊗ whole 1 ⊕ d)
  ratio g e d k l i j h =
      let ρ = one (value_of x) b in
      let p = val ρ (meant t) in
      let r = plain e k in
      record {
        fin = r.fin;
        size = size-⊑ j (size-near r.near (plainly x b H (meant t) (whole 1) i));
        near = triangle (within-mul-right r.near (cos_one (val ρ g) h)) (size→within (size-≈ (⊕-cong (⊗-cong (≈-refl p) (cos_is ρ g)) (neg_cong (sin_is ρ g))) (plainly x b H (meant t :* cos_e g :- sin_e g) d l)));
      }

fifty : whole 1 ⊕ (tiny 50 ⊕ whole 0) ⊑ whole 2
unfolding leq
fifty = by-test {a = whole 1 ⊕ (tiny 50 ⊕ whole 0)} {b = whole 2} tt

sixty : whole 1 ⊕ (tiny 60 ⊕ whole 0) ⊑ whole 2
unfolding leq
sixty = by-test {a = whole 1 ⊕ (tiny 60 ⊕ whole 0)} {b = whole 2} tt

-- ---- radians
tree : Exp
tree = tan_near_in mla_e mul_e own (arg 0)

near-sound : (x : Float) (H : Held x (frac 1 10)) → T (sound x (frac 1 10) H tree (tiny 50))
unfolding leq scan size of_bits of_fields odd count_trailing_zeros tree
near-sound x H = tt

near-small : (y : Fraction) → T (small (one y (frac 1 10)) (tiny 40) (meant tree :* cos_e (var 0) :- sin_e (var 0)))
unfolding small leq tree sin_e cos_e of_bits of_fields odd count_trailing_zeros
near-small y = tt

near-unit : (x : Float) → T (small (one (value_of x) (frac 1 10)) (whole 1) (meant tree))
unfolding small leq tree of_bits of_fields odd count_trailing_zeros
near-unit x = tt

pub tangent_series : TangentSeries
unfolding tree
tangent_series x h =
    let ρ = one x (frac 1 10) in
    size→within (size-≈ (⊕-cong (⊗-cong (≈-refl (val ρ (meant tree))) (cos_is ρ (var 0))) (neg_cong (sin_is ρ (var 0)))) (bound ρ (h, tt) (tiny 40) (meant tree :* cos_e (var 0) :- sin_e (var 0)) (near-small x)))

pub near-ratio : (x : Float) → Held x (frac 1 10) → Ratio (tan_near x) (value_of x) ((tiny 50 ⊕ whole 0) ⊗ whole 1 ⊕ tiny 40)
unfolding tree leq
near-ratio x H = ratio x (frac 1 10) H tree (var 0) (tiny 50) (tiny 40) (near-sound x H) (near-small (value_of x)) (near-unit x) fifty (size-⊑ (by-test tt) H.size)

-- x - x / 2 ^ 25 below 2 ^ -12
line-tree : Exp
line-tree = mla_e (arg 0) (own minus_tiny) (arg 0)

line-sound : (x : Float) (H : Held x below_twelve) → T (sound x below_twelve H line-tree (tiny 60))
unfolding leq scan size of_bits of_fields odd count_trailing_zeros line-tree
line-sound x H = tt

line_small : (x : Float) → T (small (one (value_of x) below_twelve) (tiny 36) (meant line-tree :* cos_e (var 0) :- sin_e (var 0)))
unfolding small leq line-tree sin_e cos_e of_bits of_fields odd count_trailing_zeros
line_small x = tt

line-unit : (x : Float) → T (small (one (value_of x) below_twelve) (whole 1) (meant line-tree))
unfolding small leq line-tree of_bits of_fields odd count_trailing_zeros
line-unit x = tt

pub line-ratio : (x : Float) → Held x below_twelve → Ratio (fmla x minus_tiny x) (value_of x) ((tiny 60 ⊕ whole 0) ⊗ whole 1 ⊕ tiny 36)
unfolding line-tree leq
line-ratio x H = ratio x below_twelve H line-tree (var 0) (tiny 60) (tiny 36) (line-sound x H) (line_small x) (line-unit x) sixty (size-⊑ (by-test tt) H.size)

-- next to zero the argument itself
zero-small : (x : Float) → T (small (one (value_of x) (tiny 60)) (tiny 60) (meant (arg 0) :* cos_e (var 0) :- sin_e (var 0)))
unfolding small leq sin_e cos_e
zero-small x = tt

zero-unit : (x : Float) → T (small (one (value_of x) (tiny 60)) (whole 1) (meant (arg 0)))
unfolding small leq
zero-unit x = tt

pub zero-ratio : (x : Float) → Held x (tiny 60) → Ratio x (value_of x) ((tiny 60 ⊕ whole 0) ⊗ whole 1 ⊕ tiny 60)
unfolding leq
zero-ratio x H = ratio x (tiny 60) H (arg 0) (var 0) (tiny 60) (tiny 60) (zero-sound x H) (zero-small x) (zero-unit x) sixty (size-⊑ (by-test tt) H.size)

-- ---- half turns: two terms below 2 ^ -13
terms-tree : Exp
terms-tree = mul_e (mla_e square (own pi3_over3) (own pi)) (arg 0)

terms-sound : (x : Float) (H : Held x (tiny 13)) → T (sound x (tiny 13) H terms-tree (tiny 50))
unfolding leq scan size of_bits of_fields odd count_trailing_zeros terms-tree
terms-sound x H = tt

terms-small : (x : Float) → T (small (one (value_of x) (tiny 13)) (tiny 50) (meant terms-tree :* cos_e (var 0 :* angle) :- sin_e (var 0 :* angle)))
unfolding small leq terms-tree sin_e cos_e step of_bits of_fields odd count_trailing_zeros
terms-small x = tt

terms-unit : (x : Float) → T (small (one (value_of x) (tiny 13)) (whole 1) (meant terms-tree))
unfolding small leq terms-tree of_bits of_fields odd count_trailing_zeros
terms-unit x = tt

pub terms-ratio : (x : Float) → Held x (tiny 13) → Size (half_turns (value_of x)) (frac 4 5) → Ratio (mul binary64 (fmla (mul binary64 x x) pi3_over3 pi) x) (half_turns (value_of x)) ((tiny 50 ⊕ whole 0) ⊗ whole 1 ⊕ tiny 50)
unfolding terms-tree
terms-ratio x H h = ratio x (tiny 13) H terms-tree (var 0 :* angle) (tiny 50) (tiny 50) (terms-sound x H) (terms-small x) (terms-unit x) fifty h

-- ---- steps: the tangent of y
factor-tree : Exp
factor-tree = polyeval4 mla_e square (own tan0) (own tan1) (own tan2) (own tan3)

-- the polynomial without its last factor
abbrev pub tan_factor : Float → Float
tan_factor y = polyeval4 fmla (mul binary64 y y) tan0 tan1 tan2 tan3

factor-sound : (y : Float) (H : Held y (frac 3 4)) → T (sound y (frac 3 4) H factor-tree (tiny 50))
unfolding leq scan size of_bits of_fields odd count_trailing_zeros factor-tree
factor-sound y H = tt

factor-small : (y : Float) → T (small (one (value_of y) (frac 3 4)) (frac 1 100) (meant factor-tree :- con (frac 1 10)))
unfolding small leq factor-tree of_bits of_fields odd count_trailing_zeros
factor-small y = tt

pub factor-near : (y : Float) → Held y (frac 3 4) → Good (tan_factor y) (frac 1 10) (tiny 50 ⊕ frac 1 100)
unfolding factor-tree
factor-near y H = apart y (frac 3 4) H factor-tree (con (frac 1 10)) (frac 1 10) (tiny 50) (frac 1 100) (factor-sound y H) (plainly y (frac 3 4) H (meant factor-tree :- con (frac 1 10)) (frac 1 100) (factor-small y)) (≈-refl (frac 1 10))

steps-tree : Exp
unfolding factor-tree
steps-tree = mul_e factor-tree (arg 0)

steps-sound : (y : Float) (H : Held y (frac 3 4)) → T (sound y (frac 3 4) H steps-tree (tiny 50))
unfolding leq scan size of_bits of_fields odd count_trailing_zeros steps-tree
steps-sound y H = tt

steps-small : (y : Float) → T (small (one (value_of y) (frac 3 4)) (tiny 38) (meant steps-tree :* cos_e (var 0 :* con step) :- sin_e (var 0 :* con step)))
unfolding small leq steps-tree sin_e cos_e step of_bits of_fields odd count_trailing_zeros
steps-small y = tt

steps-unit : (x : Float) → T (small (one (value_of x) (frac 3 4)) (whole 1) (meant steps-tree))
unfolding small leq steps-tree of_bits of_fields odd count_trailing_zeros
steps-unit x = tt

pub one-step : (y : Float) → Held y (frac 3 4) → Size (value_of y) (whole 1)
unfolding leq
one-step y H = size-⊑ (by-test tt) H.size

pub step-angle : (y : Float) → Held y (frac 3 4) → Size (value_of y ⊗ step) (frac 4 5)
unfolding leq
step-angle y H = size-⊑ (by-test tt) (small-step (value_of y) (one-step y H))

steps-error : (tiny 50 ⊕ whole 0) ⊗ whole 1 ⊕ tiny 38 ⊑ tiny 50 ⊕ tiny 38
unfolding leq
steps-error = by-test {a = (tiny 50 ⊕ whole 0) ⊗ whole 1 ⊕ tiny 38} {b = tiny 50 ⊕ tiny 38} tt

pub steps-near : (y : Float) → Held y (frac 3 4) → Within (value_of (tan_of_y y) ⊗ cos_series (value_of y ⊗ step)) (sin_series (value_of y ⊗ step)) (tiny 50 ⊕ tiny 38)
unfolding steps-tree
steps-near y H = within-⊑ steps-error (ratio y (frac 3 4) H steps-tree (var 0 :* con step) (tiny 50) (tiny 38) (steps-sound y H) (steps-small y) (steps-unit y) fifty (step-angle y H)).near

steps_little : (y : Float) → T (small (one (value_of y) (frac 3 4)) (frac 3 40) (meant steps-tree))
unfolding small leq steps-tree of_bits of_fields odd count_trailing_zeros
steps_little y = tt

thirteenth : frac 3 40 ⊕ (tiny 50 ⊕ whole 0) ⊑ frac 1 13
unfolding leq
thirteenth = by-test {a = frac 3 40 ⊕ (tiny 50 ⊕ whole 0)} {b = frac 1 13} tt

pub steps-held : (y : Float) → Held y (frac 3 4) → Held (tan_of_y y) (frac 1 13)
unfolding steps-tree
steps-held y H =
    let r = plain y (frac 3 4) H steps-tree (tiny 50) (steps-sound y H) in
    record { fin = r.fin; size = size-⊑ thirteenth (size-near r.near (plainly y (frac 3 4) H (meant steps-tree) (frac 3 40) (steps_little y))) }
