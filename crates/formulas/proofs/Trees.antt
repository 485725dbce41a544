-- Straight-line code in one variable against an expression: the rounding by the analyser, the rest by coefficients.
use Rattle.std.proofs.Common.{◌≡◌, zero, suc, Bool, ◌&&◌, T, List, [], ◌∷◌, refl, ap, ◌∙◌, subst}
use lib.Ieee.Fits.{and_l, and_r}
use lib.Ieee.{Float, binary64}
use Rattle.exact.specs.Fraction.{Fraction, ◌≈◌, ◌⊕◌, ◌⊗◌, ◌⊖◌, whole, frac, Size, Within, leq}
use Rattle.exact.specs.Straight.{Input, Exp, var as arg, con as lit, plus, minus as less, times, narrow, run, exact, scan}
use Rattle.exact.specs.Value.{value_of, Good, Held}
use Rattle.exact.proofs.Order.{by-test, ≈-refl, triangle, within-⊑, within-≈, size→within}
use Rattle.exact.proofs.Poly.{Expr, var, con, ◌:+◌, ◌:*◌, ◌:-◌, minus, free, Env, val, same, small, le, hyp, sq, ◌*c◌}
use Rattle.exact.proofs.Cert.{prove}
use Rattle.exact.proofs.Bound.{bound}
use Rattle.exact.proofs.Straight.{input, close}

-- a constant that stands for itself
abbrev pub own : Float → Exp
own c = lit c (value_of c) (whole 0)

-- the argument's square
abbrev pub square : Exp
square = times binary64 (arg 0) (arg 0)

-- a b + c
abbrev pub mla_e : Exp → Exp → Exp → Exp
mla_e a b c = plus binary64 (times binary64 a b) c

-- a b
abbrev pub mul_e : Exp → Exp → Exp
mul_e = times binary64

-- what the code means, as an expression
abbrev pub meant : Exp → Expr
meant (arg n) = var n
meant (lit x v e) = con v
meant (plus f a b) = meant a :+ meant b
meant (less f a b) = meant a :- meant b
meant (times f a b) = meant a :* meant b
meant (narrow f a) = meant a

-- one variable, at most b in size
abbrev pub one : Fraction → Fraction → Env
one y b = record { at = y; cap = b } ∷ []

-- the argument alone
abbrev pub only : (x : Float) (b : Fraction) → Held x b → List Input
only x b H = input x b H ∷ []

meant_is : (x : Float) (b : Fraction) (H : Held x b) (t : Exp) → exact (only x b H) t ≡ val (one (value_of x) b) (meant t)
meant_is x b H (arg zero) = refl
meant_is x b H (arg (suc n)) = refl
meant_is x b H (lit c v e) = refl
meant_is x b H (plus f s t) = ap (λ z. z ⊕ exact (only x b H) t) (meant_is x b H s) ∙ ap (λ z. val (one (value_of x) b) (meant s) ⊕ z) (meant_is x b H t)
meant_is x b H (less f s t) = ap (λ z. z ⊖ exact (only x b H) t) (meant_is x b H s) ∙ ap (λ z. val (one (value_of x) b) (meant s) ⊖ z) (meant_is x b H t)
meant_is x b H (times f s t) = ap (λ z. z ⊗ exact (only x b H) t) (meant_is x b H s) ∙ ap (λ z. val (one (value_of x) b) (meant s) ⊗ z) (meant_is x b H t)
meant_is x b H (narrow f s) = meant_is x b H s

-- the analyser finds nothing wrong, and an error of at most e
abbrev pub sound : (x : Float) (b : Fraction) → Held x b → Exp → Fraction → Bool
sound x b H t e = (scan (only x b H) t).fine && leq (scan (only x b H) t).error e

-- e for the rounding, d for the rest
pub apart : (x : Float) (b : Fraction) (H : Held x b) (t : Exp) (g : Expr) (v e d : Fraction) → T (sound x b H t e) → Size (val (one (value_of x) b) (meant t :- g)) d → val (one (value_of x) b) g ≈ v → Good (run (only x b H) t) v (e ⊕ d)
apart x b H t g v e d k s q =
    let r = close (only x b H) t e (and_l (scan (only x b H) t).fine (leq (scan (only x b H) t).error e) k) (and_r (scan (only x b H) t).fine (leq (scan (only x b H) t).error e) k) in
    let m = subst (λ z. Within (value_of (run (only x b H) t)) z e) (meant_is x b H t) r.near in
    record { fin = r.fin; near = triangle m (within-≈ (≈-refl (val (one (value_of x) b) (meant t))) q (size→within s)) }

-- and f for both
pub against : (x : Float) (b : Fraction) (H : Held x b) (t : Exp) (g : Expr) (v e d f : Fraction) → T (sound x b H t e) → Size (val (one (value_of x) b) (meant t :- g)) d → val (one (value_of x) b) g ≈ v → T (leq (e ⊕ d) f) → Good (run (only x b H) t) v f
against x b H t g v e d f k s q l = let r = apart x b H t g v e d k s q in record { fin = r.fin; near = within-⊑ (by-test l) r.near }

-- by the coefficients as they stand
pub plainly : (x : Float) (b : Fraction) → Held x b → (e : Expr) (d : Fraction) → T (small (one (value_of x) b) d e) → Size (val (one (value_of x) b) e) d
plainly x b H e d t = bound (one (value_of x) b) (H.size, tt) d e t

-- ---- or about the middle of the squares
abbrev pub middle : Fraction → Fraction
middle b = (b ⊗ b) ⊗ frac 1 2

-- y and y² less the middle
abbrev pub two : Fraction → Fraction → Env
two y b = record { at = y; cap = b } ∷ record { at = y ⊗ y ⊖ middle b; cap = middle b } ∷ []

pub about_middle : (y b : Fraction) → Size y b → Size (y ⊗ y ⊖ middle b) (middle b)
unfolding same
about_middle y b h =
    let ρ : Env = free y ∷ free b ∷ [] in
    let hs = le (minus (var 1)) (var 0) ∷ le (var 0) (var 1) ∷ [] in
    let m = (var 1 :* var 1) :* con (frac 1 2) in
    record {
      below = prove ρ hs (h.above, (h.below, tt)) (var 0 :* var 0 :- m) m (hyp 0 *c hyp 1) tt;
      above = prove ρ hs (h.above, (h.below, tt)) (minus m) (var 0 :* var 0 :- m) (sq (var 0)) tt;
    }
