-- Lists of rows: their samples and their totals. Definitions only.
use Rattle.std.specs.Prelude.{ℕ, Bool, true, false, not, ◌&&◌, ◌||◌, List, [], ◌∷◌, map, ℤ, pos, ◌+ℤ◌, ◌*ℤ◌, fold, sum_by, ◌==◌}
use Rattle.sheets.specs.declared.row.Row.{Row}
use Rattle.sheets.specs.declared.totals.Totals.{Totals}

-- the rows' sample numbers
abbrev pub samples : List Row → List ℕ
samples rows = map (λ r. r.sample) rows

-- s stands in the list
abbrev pub among : ℕ → List ℕ → Bool
among s [] = false
among s (x ∷ xs) = s == x || among s xs

-- no number stands twice
abbrev pub distinct : List ℕ → Bool
distinct [] = true
distinct (x ∷ xs) = not (among x xs) && distinct xs

-- the sum of the speeds, in cm/s
abbrev pub speed_of : List Row → ℕ
speed_of rows = sum_by (λ r. r.speed) rows

-- the sum of speed × cosine share
abbrev pub along_of : List Row → ℤ
along_of rows = fold (λ a r. a +ℤ pos r.speed *ℤ r.cosine) (pos 0) rows

-- the sum of speed × sine share
abbrev pub across_of : List Row → ℤ
across_of rows = fold (λ a r. a +ℤ pos r.speed *ℤ r.sine) (pos 0) rows

-- the totals of the rows
abbrev pub row_totals : List Row → Totals
row_totals rows = record { speed = speed_of rows; along = along_of rows; across = across_of rows }
