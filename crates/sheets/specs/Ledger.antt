-- The rows of a table with the totals that it keeps. Definitions only.
use Rattle.std.specs.Prelude.{List}
use Rattle.sheets.specs.declared.row.Row.{Row}
use Rattle.sheets.specs.declared.totals.Totals.{Totals}
use Rattle.sheets.specs.Rows.{row_totals}

-- the rows in the order of their places, and the totals kept
pub record Ledger : Type 0 where
  pub rows : List Row
  pub totals : Totals

-- the rows with their own totals
abbrev pub ledger : List Row → Ledger
ledger rows = record { rows = rows; totals = row_totals rows }
