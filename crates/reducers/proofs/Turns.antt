-- Whole turns: k modulo 64, and angles that differ by a multiple of 64.
use Rattle.std.proofs.Common.{ℕ, ◌+◌, ◌/◌, ◌<◌, [], ◌∷◌, ℤ, pos, negsuc, arith}
use Rattle.exact.specs.Fraction.{Fraction, ◌≈◌, ◌⊕◌, ◌⊗◌, ◌⊖◌, whole, Within}
use Rattle.exact.specs.Value.{integer}
use Rattle.exact.specs.Multiple.{dif, Multiple}
use Rattle.exact.proofs.Order.{≈-refl, ≈-trans, ⊕-comm, ⊕-cong, ⊗-cong, within-≈, within-left}
use Rattle.exact.proofs.Poly.{var, con, ◌:+◌, ◌:*◌, ◌:-◌, free, same}
use Rattle.exact.proofs.Cert.{ring}
use Rattle.exact.proofs.Multiple.{multiple-⊕}
use Rattle.exact.proofs.Away.{int-multiple}
use Rattle.circle.specs.Circle.{Alike}
use Rattle.reducers.specs.Exact.{mod_turn}

-- ---- k modulo 64
pub mod_turn_lt : (k : ℤ) → mod_turn k < 64
mod_turn_lt (pos n) = omega arith
mod_turn_lt (negsuc n) = omega arith

-- k is that, but for whole turns
pub mod_turn_turns : (k : ℤ) → Multiple (integer k ⊖ whole (mod_turn k)) (whole 64)
mod_turn_turns (pos n) = record { p = n / 64; m = 0; is = record { eq = omega arith } }
mod_turn_turns (negsuc n) = record { p = 0; m = n / 64 + 1; is = record { eq = omega arith } }

-- ---- whole turns more or less
dif-is : (p m : ℕ) → dif p m ≈ whole p ⊖ whole m
dif-is p m = record { eq = omega arith }

turned : (v p m : Fraction) → whole 64 ⊗ m ⊕ (v ⊕ (p ⊖ m) ⊗ whole 64) ≈ v ⊕ whole 64 ⊗ p
unfolding same
turned v p m = ring (free v ∷ free p ∷ free m ∷ []) (con (whole 64) :* var 2 :+ (var 0 :+ (var 1 :- var 2) :* con (whole 64))) (var 0 :+ con (whole 64) :* var 1) tt

pub turns-alike : (v u c d : Fraction) → Multiple d (whole 64) → Within (v ⊕ d) u c → Alike v u c
turns-alike v u c d M h = record {
  more = M.p;
  less = M.m;
  near =
      (let e : d ≈ (whole M.p ⊖ whole M.m) ⊗ whole 64 = ≈-trans M.is (⊗-cong (dif-is M.p M.m) (≈-refl (whole 64))) in
      let b = whole 64 ⊗ whole M.m in
      within-≈ (≈-trans (⊕-cong (≈-refl b) (⊕-cong (≈-refl v) e)) (turned v (whole M.p) (whole M.m))) (⊕-comm b u) (within-left b h));
}

regroup : (r y k t : Fraction) → (k ⊕ y) ⊕ t ≈ (r ⊕ y) ⊕ ((k ⊖ r) ⊕ t)
unfolding same
regroup r y k t = ring (free r ∷ free y ∷ free k ∷ free t ∷ []) ((var 2 :+ var 1) :+ var 3) ((var 0 :+ var 1) :+ ((var 2 :- var 0) :+ var 3)) tt

pub mod_turn_alike : (k : ℤ) (y u : Fraction) (n : ℤ) (c : Fraction) → Within ((integer k ⊕ y) ⊕ integer n ⊗ whole 64) u c → Alike (whole (mod_turn k) ⊕ y) u c
mod_turn_alike k y u n c h =
    let r = whole (mod_turn k) in
    let t = integer n ⊗ whole 64 in
    turns-alike (r ⊕ y) u c ((integer k ⊖ r) ⊕ t) (multiple-⊕ (mod_turn_turns k) (int-multiple n (whole 64))) (within-≈ (regroup r y (integer k) t) (≈-refl u) h)
