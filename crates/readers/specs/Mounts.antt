-- Mounts keep the promise of the reader below them.
use Rattle.std.specs.Prelude.{◌≡◌, ℕ, ◌+◌, ◌-◌, ◌*◌, ◌/◌, ◌%◌, ◌<◌, [], ◌∷◌, Some, None, Ok, Err, Float}
use Rattle.std.proofs.Common.{arith}
use Rattle.std.specs.Float.Ieee.{neg as negate}
use Rattle.exact.specs.Fraction.{Fraction, ◌≈◌, ◌⊕◌, ◌⊗◌, neg, whole, tiny, Within}
use Rattle.exact.specs.Value.{value_of, Held}
use Rattle.exact.proofs.Order.{≈-refl, ≈-sym, ≈-trans, ≈→⊑, ⊕-cong, ⊕-zero, ⊗-cong, size-≈, size-neg, within-⊕, within-⊑, within-neg, within-refl, within-≈}
use Rattle.exact.proofs.Poly.{var, con, ◌:+◌, ◌:*◌, minus, free, same}
use Rattle.exact.proofs.Cert.{ring}
use Rattle.exact.proofs.Rounding.{finite-neg, value-neg}
use Rattle.circle.specs.Circle.{Alike, turns_on}
use Rattle.readers.specs.Meaning.{Steps, Reading, Keeps, turned_steps, turned_answer, mirrored_steps, mirrored_answer}

-- the same number on both sides
both : {a b c : Fraction} (d : Fraction) → Within a b c → Within (a ⊕ d) (b ⊕ d) c
both {a} {b} {c} d h = within-⊑ (≈→⊑ (⊕-zero c)) (within-⊕ h (within-refl (≈-refl d)))

whole_sum : (a b : ℕ) → whole (a + b) ≈ whole a ⊕ whole b
whole_sum a b = record { eq = omega arith }

-- k + a steps are k' steps and n turns
further : (k k' a n : ℕ) → k + a ≡ k' + 64 * n → whole k ⊕ whole a ≈ whole k' ⊕ whole 64 ⊗ whole n
further k k' a n e = record { eq = omega arith }

turned_left : (k k' a n m : ℕ) (y : Fraction) → k + a ≡ k' + 64 * n → turns_on (whole k ⊕ y) m ⊕ whole a ≈ turns_on (whole k' ⊕ y) (m + n)
unfolding same
turned_left k k' a n m y e =
    ≈-trans (ring (free (whole k) ∷ free y ∷ free (whole m) ∷ free (whole a) ∷ []) ((var 0 :+ var 1) :+ con (whole 64) :* var 2 :+ var 3) ((var 0 :+ var 3) :+ (var 1 :+ con (whole 64) :* var 2)) tt)
    (≈-trans (⊕-cong (further k k' a n e) (≈-refl (y ⊕ whole 64 ⊗ whole m)))
    (≈-trans (ring (free (whole k') ∷ free y ∷ free (whole m) ∷ free (whole n) ∷ []) ((var 0 :+ con (whole 64) :* var 3) :+ (var 1 :+ con (whole 64) :* var 2)) ((var 0 :+ var 1) :+ con (whole 64) :* (var 2 :+ var 3)) tt)
    (⊕-cong (≈-refl (whole k' ⊕ y)) (⊗-cong (≈-refl (whole 64)) (≈-sym (whole_sum m n))))))

turned_right : (u : Fraction) (a n : ℕ) → turns_on u n ⊕ whole a ≈ turns_on (u ⊕ whole a) n
unfolding same
turned_right u a n = ring (free u ∷ free (whole a) ∷ free (whole n) ∷ []) ((var 0 :+ con (whole 64) :* var 2) :+ var 1) ((var 0 :+ var 1) :+ con (whole 64) :* var 2) tt

pub alike_turned : (k k' a n : ℕ) (y u c : Fraction) → k + a ≡ k' + 64 * n → Alike (whole k ⊕ y) u c → Alike (whole k' ⊕ y) (u ⊕ whole a) c
alike_turned k k' a n y u c e h = record {
  more = h.more + n;
  less = h.less;
  near = within-≈ (turned_left k k' a n h.more y e) (turned_right u a h.less) (both (whole a) h.near);
}

-- mirrored: - k - y - 64 m, and 64 (m + 1 + l) on
back : (k k' n : ℕ) → k + k' + 64 * n ≡ 64 → neg (whole k) ⊕ whole 64 ≈ whole k' ⊕ whole 64 ⊗ whole n
back k k' n e = record { eq = omega arith }

mirrored-left : (k k' n m l : ℕ) (y : Fraction) → k + k' + 64 * n ≡ 64 → neg (turns_on (whole k ⊕ y) m) ⊕ whole 64 ⊗ (whole m ⊕ whole l ⊕ whole 1) ≈ turns_on (whole k' ⊕ neg y) (l + n)
unfolding same
mirrored-left k k' n m l y e =
    ≈-trans (ring (free (whole k) ∷ free y ∷ free (whole m) ∷ free (whole l) ∷ []) (minus ((var 0 :+ var 1) :+ con (whole 64) :* var 2) :+ con (whole 64) :* (var 2 :+ var 3 :+ con (whole 1))) ((minus (var 0) :+ con (whole 64)) :+ (minus (var 1) :+ con (whole 64) :* var 3)) tt)
    (≈-trans (⊕-cong (back k k' n e) (≈-refl (neg y ⊕ whole 64 ⊗ whole l)))
    (≈-trans (ring (free (whole k') ∷ free y ∷ free (whole l) ∷ free (whole n) ∷ []) ((var 0 :+ con (whole 64) :* var 3) :+ (minus (var 1) :+ con (whole 64) :* var 2)) ((var 0 :+ minus (var 1)) :+ con (whole 64) :* (var 2 :+ var 3)) tt)
    (⊕-cong (≈-refl (whole k' ⊕ neg y)) (⊗-cong (≈-refl (whole 64)) (≈-sym (whole_sum l n))))))

mirrored-right : (u : Fraction) (m l : ℕ) → neg (turns_on u l) ⊕ whole 64 ⊗ (whole m ⊕ whole l ⊕ whole 1) ≈ turns_on (neg u) (m + 1)
unfolding same
mirrored-right u m l =
    ≈-trans (ring (free u ∷ free (whole m) ∷ free (whole l) ∷ []) (minus (var 0 :+ con (whole 64) :* var 2) :+ con (whole 64) :* (var 1 :+ var 2 :+ con (whole 1))) (minus (var 0) :+ con (whole 64) :* (var 1 :+ con (whole 1))) tt)
    (⊕-cong (≈-refl (neg u)) (⊗-cong (≈-refl (whole 64)) (≈-sym (whole_sum m 1))))

pub alike-mirrored : (k k' n : ℕ) (y z u c : Fraction) → k + k' + 64 * n ≡ 64 → z ≈ neg y → Alike (whole k ⊕ y) u c → Alike (whole k' ⊕ z) (neg u) c
alike-mirrored k k' n y z u c e zy h = record {
  more = h.less + n;
  less = h.more + 1;
  near =
      within-≈
      (≈-trans (mirrored-left k k' n h.more h.less y e) (⊕-cong (⊕-cong (≈-refl (whole k')) (≈-sym zy)) (≈-refl (whole 64 ⊗ whole (h.less + n)))))
      (mirrored-right u h.more h.less)
      (both (whole 64 ⊗ (whole h.more ⊕ whole h.less ⊕ whole 1)) (within-neg h.near));
}

held-neg : {y : Float} {b : Fraction} → Held y b → Held (negate y) b
held-neg {y} h = record { fin = finite-neg y h.fin; size = size-≈ (≈-sym (value-neg y)) (size-neg h.size) }

pub turned-keeps : (q : ℕ) (o : Steps) (a : Reading) → Keeps o a → Keeps (turned_steps q o) (turned_answer q a)
turned-keeps q None (Err e) k = tt
turned-keeps q None (Ok a) k = k
turned-keeps q (Some u) (Err e) k = k
turned-keeps q (Some u) (Ok a) k =
    let r : (a.0 + 16 * q) % 64 < 64 = omega arith in
    let e : a.0 + 16 * q ≡ (a.0 + 16 * q) % 64 + 64 * ((a.0 + 16 * q) / 64) = omega arith in
    record { step = r; rest = k.rest; near = alike_turned a.0 ((a.0 + 16 * q) % 64) (16 * q) ((a.0 + 16 * q) / 64) (value_of a.1) u (tiny 50) e k.near }

pub mirrored-keeps : (o : Steps) (a : Reading) → Keeps o a → Keeps (mirrored_steps o) (mirrored_answer a)
mirrored-keeps None (Err e) k = tt
mirrored-keeps None (Ok a) k = k
mirrored-keeps (Some u) (Err e) k = k
mirrored-keeps (Some u) (Ok a) k =
    let r : (64 - a.0) % 64 < 64 = omega arith in
    let s = k.step in
    let e : a.0 + (64 - a.0) % 64 + 64 * ((64 - a.0) / 64) ≡ 64 = omega arith in
    record { step = r; rest = held-neg k.rest; near = alike-mirrored a.0 ((64 - a.0) % 64) ((64 - a.0) / 64) (value_of a.1) (value_of (negate a.1)) u (tiny 50) e (value-neg a.1) k.near }
