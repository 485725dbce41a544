use Rattle.std.proofs.Common.{◌≡◌, ℕ, ◌+◌, ◌*◌, ◌^◌, ◌<◌, ◌≤◌, List, length, get_or, take, ℤ, pos, ◌+ℤ◌, ◌*ℤ◌, nat_abs, fold, sym, ap, ◌∙◌, arith, w32, w64, SFits, to_z, of_z, rules}
use Rattle.std.proofs.lemmas.List.Sums.{fold_more, sum_by_more}
use Rattle.std.proofs.lemmas.Int.{ints, to_z-of_z}
use Rattle.sheets.specs.declared.row.Row.{Row}
use Rattle.sheets.proofs.row_table.totals_of.Goals as goal

abbrev none : Row
none = record { sample = 0; speed = 0; word = 0; sine = pos 0; cosine = pos 0 }

-- one more part on a running sum
more : (sum part : ℤ) → nat_abs sum ≤ 2 ^ 60 → nat_abs part ≤ 2 ^ 60 → to_z w64 (of_z w64 (sum +ℤ to_z w64 (of_z w64 part))) ≡ sum +ℤ part
more sum part h k = omega (arith, ints)

bounded : (sum part end : ℤ) (i : ℕ) → end ≡ sum +ℤ part → nat_abs sum ≤ 2 ^ 47 * i → nat_abs part ≤ 2 ^ 47 → nat_abs end ≤ 2 ^ 47 * (i + 1)
bounded sum part end i e h k = omega (arith, ints)

summed : (f : ℤ → Row → ℤ) (rows : List Row) (i : ℕ) (sum part end : ℤ) → i < length rows → sum ≡ fold f (pos 0) (take i rows) → end ≡ sum +ℤ part → f sum (get_or rows i none) ≡ sum +ℤ part → end ≡ fold f (pos 0) (take (i + 1) rows)
summed f rows i sum part end lt e more h = more ∙ sym h ∙ ap (λ s. f s (get_or rows i none)) e ∙ sym (fold_more f (pos 0) rows i none lt)

-- the part that was added is that of the share
read : (a : ℕ) (sum share part : ℤ) → SFits w32 share → part ≡ pos a *ℤ to_z w32 (of_z w32 share) → sum +ℤ pos a *ℤ share ≡ sum +ℤ part
read a sum share part f e = ap (λ p. sum +ℤ p) (sym (e ∙ ap (λ z. pos a *ℤ z) (to_z-of_z w32 share f)))

pub loop-row-preserved : goal.loop-row-preserved
loop-row-preserved c =
    let i : ℕ = c.loop-row.row-index in
    let rows : List Row = c.args.rows.now in
    let lt : i < length rows = omega arith in
    let fc : SFits w32 (get_or rows i none).cosine = search rules in
    let fs : SFits w32 (get_or rows i none).sine = search rules in
    let p : ℤ = c.part-along.result in
    let q : ℤ = c.part-across.result in
    let a0 : ℤ = to_z w64 c.loop-row.along-bits in
    let b0 : ℤ = to_z w64 c.loop-row.across-bits in
    let along : to_z w64 (of_z w64 (a0 +ℤ to_z w64 (of_z w64 p))) ≡ a0 +ℤ p = more a0 p (omega (arith, c.loop-row.invariant.2)) (omega arith) in
    let across : to_z w64 (of_z w64 (b0 +ℤ to_z w64 (of_z w64 q))) ≡ b0 +ℤ q = more b0 q (omega (arith, c.loop-row.invariant.3)) (omega arith) in (
      omega arith,
      omega arith,
      bounded a0 p _ i along c.loop-row.invariant.2 c.part-along.ensures.size,
      bounded b0 q _ i across c.loop-row.invariant.3 c.part-across.ensures.size,
      omega (arith, sum_by_more (λ (r : Row). r.speed) rows i none lt),
      summed (λ a r. a +ℤ pos r.speed *ℤ r.cosine) rows i a0 p _ lt c.loop-row.invariant.5 along (read (get_or rows i none).speed a0 (get_or rows i none).cosine p fc c.part-along.ensures.value),
      summed (λ a r. a +ℤ pos r.speed *ℤ r.sine) rows i b0 q _ lt c.loop-row.invariant.6 across (read (get_or rows i none).speed b0 (get_or rows i none).sine q fs c.part-across.ensures.value),
    )
