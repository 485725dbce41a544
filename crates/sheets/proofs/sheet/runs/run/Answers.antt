use Rattle.std.proofs.Common.{◌≡◌, List, [], sym, refl, subst, arith}
use mathlib.Core.List.Permᴰ
use Rattle.sheets.specs.declared.row.Row.{Row}
use Rattle.sheets.specs.Runs.{Grown}
use Rattle.sheets.proofs.sheet.runs.run.Goals as goal

none_yet : (answer : _) (rs : List Row) → rs ≡ [] → Grown answer [] rs
none_yet answer rs e = subst (λ l. Grown answer [] l) (sym e) (record { order = Permᴰ.refl []; words = tt })

pub loop-call-init : goal.loop-call-init
loop-call-init g c = (omega arith, refl, none_yet _ _ c.new-sheet.ensures.rows)
