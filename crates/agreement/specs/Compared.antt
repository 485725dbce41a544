-- What the totals of two sheets after their calls have to do with the rows standing, and with each other. Definitions only.
use Rattle.std.specs.Prelude.{◌≡◌, ℕ, ◌*◌, List}
use Rattle.exact.specs.Fraction.{whole, Within}
use Rattle.exact.specs.Value.{integer}
use Rattle.readers.specs.Meaning.{Steps}
use Rattle.sheets.specs.declared.book.Call.{Call}
use Rattle.sheets.specs.declared.totals.Totals.{Totals}
use Rattle.sheets.specs.Book.{standing_after}
use Rattle.law.specs.Law.{cms, exact_along, exact_across, SameMotion}

-- totals near the exact ones of the rows standing after the calls: within 33 units for each cm/s standing
pub record Near (steps : ℕ → Steps) (calls : List Call) (totals : Totals) : Type 0 where
  pub speed : totals.speed ≡ cms (standing_after steps calls)
  pub along : Within (integer totals.along) (exact_along steps (standing_after steps calls)) (whole (33 * cms (standing_after steps calls)))
  pub across : Within (integer totals.across) (exact_across steps (standing_after steps calls)) (whole (33 * cms (standing_after steps calls)))

-- each near its own exact totals; where both saw the same motion, within 871 units of each other for each cm/s standing
pub record Compared (one : ℕ → Steps) (calls : List Call) (other : ℕ → Steps) (others : List Call) (a b : Totals) : Type 0 where
  pub first : Near one calls a
  pub second : Near other others b
  pub along : SameMotion one calls other others → Within (integer a.along) (integer b.along) (whole (871 * cms (standing_after one calls)))
  pub across : SameMotion one calls other others → Within (integer a.across) (integer b.across) (whole (871 * cms (standing_after one calls)))
