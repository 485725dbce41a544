use Rattle.std.proofs.Common.{◌≡◌, ◌*◌, ◌^◌, ◌≤◌, length, take, nat_abs}
use Rattle.sheets.specs.Rows.{speed_of, along_of, across_of}
use Rattle.sheets.proofs.row_table.totals_of.Given as goal

abbrev pub invariant-loop-row : goal.invariant-loop-row
invariant-loop-row l = (l.row-index ≤ length l.rows) × (l.speed ≤ 65535 * l.row-index) × (nat_abs l.along ≤ 2 ^ 47 * l.row-index) × (nat_abs l.across ≤ 2 ^ 47 * l.row-index)
    × (l.speed ≡ speed_of (take l.row-index l.rows)) × (l.along ≡ along_of (take l.row-index l.rows)) × (l.across ≡ across_of (take l.row-index l.rows))
