-- Quarter turns and their numbers. Definitions only.
use Rattle.std.specs.Prelude.{ℕ, cond, Ok, Err, Result, ◌==◌}
use Rattle.readers.specs.declared.mount.MountFault.{MountFault}
use Rattle.readers.specs.declared.mount.MountFault.TheVariants.{NoQuarter}
use Rattle.readers.specs.declared.mount.Quarters.{Quarters}
use Rattle.readers.specs.declared.mount.Quarters.TheVariants.{Zero, One, Two, Three}

-- how many quarter turns
abbrev pub quarter_count : Quarters → ℕ
quarter_count Zero = 0
quarter_count One = 1
quarter_count Two = 2
quarter_count Three = 3

-- the quarter turns of a number of 0 to 3; no other has any
abbrev pub quarters_of : ℕ → Result Quarters MountFault
quarters_of n = cond (n == 0) (Ok Zero) (cond (n == 1) (Ok One) (cond (n == 2) (Ok Two) (cond (n == 3) (Ok Three) (Err NoQuarter))))
