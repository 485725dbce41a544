-- The tangent's polynomial against the series, by a shift of y².
use mathlib.Core.List.{[], ◌∷◌}
use lib.Dec.{T}
use lib.Count.{count_trailing_zeros}
use lib.Ieee.{of_bits, of_fields, odd}
use Rattle.exact.specs.Fraction.{Fraction, ◌⊗◌, ◌⊖◌, frac, tiny, Size, leq}
use Rattle.exact.specs.Value.{value_of}
use Rattle.exact.proofs.Order.{≈-refl, ≈-trans, ⊕-cong, ⊗-cong, neg_cong, size-≈, size→within}
use Rattle.exact.proofs.Poly.{Expr, var, con, ◌:+◌, ◌:*◌, ◌:-◌, minus, free, Env, same, small, le, hyp, sq, ◌*c◌}
use Rattle.exact.proofs.Cert.{ring, prove}
use Rattle.exact.proofs.Bound.{bound}
use Rattle.circle.specs.Circle.{step}
use Rattle.circle.proofs.Sines.{nest_e, sin_e, cos_e, sin_is, cos_is}
use Rattle.table.specs.Tangents.{tan0, tan1, tan2, tan3}
use Rattle.table.specs.Against.{tan_poly, TangentAgainst, TangentNearer}

abbrev angle : Expr
angle = var 0 :* con step

abbrev even_e : Expr → Expr
even_e z = z :* (z :* (z :* con (value_of tan3) :+ con (value_of tan2)) :+ con (value_of tan1)) :+ con (value_of tan0)

tan_poly_e : Expr
tan_poly_e = even_e (var 0 :* var 0) :* var 0

rest : Expr
rest = tan_poly_e :* cos_e angle :- sin_e angle

-- with z for y²
parts : Expr → Expr
unfolding nest_e
parts z = var 0 :* (even_e z :* nest_e 12 0 (z :* (con step :* con step)) :- con step :* nest_e 12 1 (z :* (con step :* con step)))

-- ---- up to 3 / 4
abbrev wide-one : Fraction → Env
wide-one y = record { at = y; cap = frac 3 4 } ∷ []

abbrev wide-two : Fraction → Env
wide-two y = record { at = y; cap = frac 3 4 } ∷ record { at = y ⊗ y ⊖ frac 9 32; cap = frac 9 32 } ∷ []

wide-small : (y : Fraction) → T (small (wide-two y) (tiny 40) (parts (var 1 :+ con (frac 9 32))))
unfolding small leq parts step of_bits of_fields odd count_trailing_zeros
wide-small y = tt

wide-same : T (same 1 (parts ((var 0 :* var 0 :- con (frac 9 32)) :+ con (frac 9 32))) rest)
unfolding same parts rest tan_poly_e sin_e cos_e step of_bits of_fields odd count_trailing_zeros
wide-same = tt

wide-cap : (y : Fraction) → Size y (frac 3 4) → Size (y ⊗ y ⊖ frac 9 32) (frac 9 32)
unfolding same
wide-cap y h =
    let ρ : Env = free y ∷ [] in
    let hs = le (minus (con (frac 3 4))) (var 0) ∷ le (var 0) (con (frac 3 4)) ∷ [] in
    record {
      below = prove ρ hs (h.above, (h.below, tt)) (var 0 :* var 0 :- con (frac 9 32)) (con (frac 9 32)) (hyp 0 *c hyp 1) tt;
      above = prove ρ hs (h.above, (h.below, tt)) (minus (con (frac 9 32))) (var 0 :* var 0 :- con (frac 9 32)) (sq (var 0)) tt;
    }

pub tangent_against : TangentAgainst
unfolding parts rest tan_poly_e
tangent_against y h =
    let b = bound (wide-two y) (h, (wide-cap y h, tt)) (tiny 40) (parts (var 1 :+ con (frac 9 32))) (wide-small y) in
    let e = ring (wide-one y) (parts ((var 0 :* var 0 :- con (frac 9 32)) :+ con (frac 9 32))) rest wide-same in
    let r = ⊕-cong (⊗-cong (≈-refl (tan_poly y)) (cos_is (wide-one y) angle)) (neg_cong (sin_is (wide-one y) angle)) in
    size→within (size-≈ (≈-trans e r) b)

-- ---- up to 1 / 2
abbrev close-one : Fraction → Env
close-one y = record { at = y; cap = frac 1 2 } ∷ []

abbrev close-two : Fraction → Env
close-two y = record { at = y; cap = frac 1 2 } ∷ record { at = y ⊗ y ⊖ frac 1 8; cap = frac 1 8 } ∷ []

close-small : (y : Fraction) → T (small (close-two y) (tiny 47) (parts (var 1 :+ con (frac 1 8))))
unfolding small leq parts step of_bits of_fields odd count_trailing_zeros
close-small y = tt

close-same : T (same 1 (parts ((var 0 :* var 0 :- con (frac 1 8)) :+ con (frac 1 8))) rest)
unfolding same parts rest tan_poly_e sin_e cos_e step of_bits of_fields odd count_trailing_zeros
close-same = tt

close-cap : (y : Fraction) → Size y (frac 1 2) → Size (y ⊗ y ⊖ frac 1 8) (frac 1 8)
unfolding same
close-cap y h =
    let ρ : Env = free y ∷ [] in
    let hs = le (minus (con (frac 1 2))) (var 0) ∷ le (var 0) (con (frac 1 2)) ∷ [] in
    record {
      below = prove ρ hs (h.above, (h.below, tt)) (var 0 :* var 0 :- con (frac 1 8)) (con (frac 1 8)) (hyp 0 *c hyp 1) tt;
      above = prove ρ hs (h.above, (h.below, tt)) (minus (con (frac 1 8))) (var 0 :* var 0 :- con (frac 1 8)) (sq (var 0)) tt;
    }

pub tangent_nearer : TangentNearer
unfolding parts rest tan_poly_e
tangent_nearer y h =
    let b = bound (close-two y) (h, (close-cap y h, tt)) (tiny 47) (parts (var 1 :+ con (frac 1 8))) (close-small y) in
    let e = ring (close-one y) (parts ((var 0 :* var 0 :- con (frac 1 8)) :+ con (frac 1 8))) rest close-same in
    let r = ⊕-cong (⊗-cong (≈-refl (tan_poly y)) (cos_is (close-one y) angle)) (neg_cong (sin_is (close-one y) angle)) in
    size→within (size-≈ (≈-trans e r) b)
