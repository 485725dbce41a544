-- Samples that stand in a list, and lists without repeats.
use Rattle.std.proofs.Common.{◌≡◌, ℕ, zero, suc, ◌<◌, true, false, not, eqb, List, [], ◌∷◌, ◌++◌, length, get_or, sym, refl, arith}
use Rattle.std.proofs.lemmas.Bool.{eqb-false, eq-eqb, ne_eqb, or_from, or_left, or_right, or_parts, and_parts, and_from, not-true, not_from_false}
use Rattle.sheets.specs.Rows.{among, distinct}

pub found_among : (s : ℕ) (ss : List ℕ) (i : ℕ) → i < length ss → get_or ss i 0 ≡ s → among s ss ≡ true
found_among s [] i h e = absurd (omega arith)
found_among s (x ∷ ss) zero h e = or_left (eqb s x) (among s ss) (eq-eqb s x (sym e))
found_among s (x ∷ ss) (suc i) h e = or_right (eqb s x) (among s ss) (found_among s ss i (omega arith) e)

pub among-push : (x s : ℕ) (ss : List ℕ) → among x ss ≡ false → eqb x s ≡ false → among x (ss ++ s ∷ []) ≡ false
among-push x s [] h e = or_from (eqb x s) false e refl
among-push x s (y ∷ ss) h e = let p = or_parts (eqb x y) (among x ss) h in or_from (eqb x y) (among x (ss ++ s ∷ [])) p.0 (among-push x s ss p.1 e)

pub distinct_push : (s : ℕ) (ss : List ℕ) → distinct ss ≡ true → among s ss ≡ false → distinct (ss ++ s ∷ []) ≡ true
distinct_push s [] d a = refl
distinct_push s (x ∷ ss) d a =
    let p = and_parts (not (among x ss)) (distinct ss) d in
    let q = or_parts (eqb s x) (among s ss) a in
    and_from (not (among x (ss ++ s ∷ []))) (distinct (ss ++ s ∷ []))
    (not_from_false (among x (ss ++ s ∷ [])) (among-push x s ss (not-true (among x ss) p.0) (ne_eqb x s (λ e. eqb-false s x q.0 (sym e)))))
    (distinct_push s ss p.1 q.1)
