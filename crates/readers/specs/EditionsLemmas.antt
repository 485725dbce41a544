-- The editions' readers keep their promise.
use Rattle.std.specs.Prelude.{◌≡◌, ℕ, ◌%◌, ◌<◌, Bool, true, false, cond, Some, None, Ok, Err, ◌==◌, from_bits, nat_lt, refl, Float}
use Rattle.std.proofs.Common.{arith}
use Rattle.std.specs.Float.{binary32, binary64}
use Rattle.std.proofs.lemmas.Bool.{eqb-false, ltb-true, ltb-false}
use Rattle.exact.specs.Fraction.{Fraction, ◌⊑◌, ◌⊕◌, ◌⊗◌, whole, frac, tiny, leq}
use Rattle.exact.specs.Value.{value_of, Held}
use Rattle.exact.proofs.Order.{by-test, within-⊑}
use Rattle.circle.specs.Circle.{Alike}
use Rattle.reducers.specs.Reduce.{reduce, reduce_pi}
use Rattle.reducers.specs.Exact.{field, radian_steps}
use Rattle.reducers.proofs.Turns.{mod_turn_lt}
use Rattle.reducers.proofs.Reading.{radian-reads, half-turns-read, whole-turns-read}
use Rattle.readers.specs.declared.reader.ReaderFault.TheVariants.{NoAngle}
use Rattle.readers.specs.Meaning.{Reading, Answers, Keeps}
use Rattle.readers.specs.Editions.{turned, radian_meaning, radian_answer, half_turn_meaning, half_turn_answer}

enough : whole 1024 ⊗ tiny 60 ⊑ tiny 50
unfolding leq
enough = by-test tt

answers : (k : ℕ) (y : Float) (u : Fraction) → k < 64 → Held y (frac 3 4) × Alike (whole k ⊕ value_of y) u (whole 1024 ⊗ tiny 60) → Answers u k y
answers k y u l r = record { step = l; rest = r.0; near = record { more = r.1.more; less = r.1.less; near = within-⊑ enough r.1.near } }

-- refused at one value of a test, read at the other
read-unless : (b : Bool) (u : Fraction) (a : Reading) → (b ≡ false → Keeps (Some u) a) → Keeps (cond b None (Some u)) (cond b (Err NoAngle) a)
read-unless true u a h = tt
read-unless false u a h = h refl

either : (b : Bool) (u : Fraction) (p q : Reading) → (b ≡ true → Keeps (Some u) p) → (b ≡ false → Keeps (Some u) q) → Keeps (Some u) (cond b p q)
either true u p q f g = f refl
either false u p q f g = g refl

pub radian-keeps : (w : ℕ) → Keeps (radian_meaning w) (radian_answer w)
radian-keeps w =
    read-unless (field w == 255) (radian_steps (from_bits binary32 w)) (turned (reduce (from_bits binary32 w) (w % 2147483648)))
    (λ e. answers _ _ _ (mod_turn_lt _) (radian-reads w (eqb-false (field w) 255 e)))

pub half-turn-keeps : (w : ℕ) → Keeps (half_turn_meaning w) (half_turn_answer w)
half-turn-keeps w =
    read-unless (field w == 255) (whole 32 ⊗ value_of (from_bits binary32 w)) (cond (nat_lt (w % 2147483648) 1266679808) (turned (reduce_pi (from_bits binary32 w))) (Ok (0, from_bits binary64 0)))
    (λ e. either (nat_lt (w % 2147483648) 1266679808) (whole 32 ⊗ value_of (from_bits binary32 w)) (turned (reduce_pi (from_bits binary32 w))) (Ok (0, from_bits binary64 0))
    (λ t. answers _ _ _ (mod_turn_lt _) (half-turns-read w 1024 (eqb-false (field w) 255 e) (ltb-true _ _ t)))
    (λ t. answers _ _ _ (omega arith) (whole-turns-read w 1024 (eqb-false (field w) 255 e) (ltb-false _ _ t))))
