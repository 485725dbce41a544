-- A record's module keeps the promise of a reader.
use Rattle.std.specs.Prelude.{ℕ, Bool, true, false, Some, None, Option}
use Rattle.readers.specs.Meaning.{Steps, Reading, Keeps}
use Rattle.readers.specs.EditionsLemmas.{radian-keeps, half-turn-keeps}
use Rattle.readers.specs.Mounts.{turned-keeps, mirrored-keeps}
use Rattle.readers.specs.Quarters.{quarter_count}
use Rattle.record.specs.declared.edition.Edition.{Edition}
use Rattle.record.specs.declared.edition.Edition.TheVariants as edition
use Rattle.record.specs.declared.edition.Mount.{Mount}
use Rattle.record.specs.Record.{edition_steps, edition_answer, mirror_steps, mirror_answer, steps_under, answer_under}

-- ---- the record's reader keeps its promise
edition-keeps : (e : Edition) (w : ℕ) → Keeps (edition_steps e w) (edition_answer e w)
edition-keeps edition.Radians w = radian-keeps w
edition-keeps edition.HalfTurns w = half-turn-keeps w

mirror-keeps : (b : Bool) (o : Steps) (a : Reading) → Keeps o a → Keeps (mirror_steps b o) (mirror_answer b a)
mirror-keeps true o a k = mirrored-keeps o a k
mirror-keeps false o a k = k

pub under-keeps : (m : Option Mount) (e : Edition) (w : ℕ) → Keeps (steps_under m (edition_steps e) w) (answer_under m (edition_answer e) w)
under-keeps None e w = edition-keeps e w
under-keeps (Some m) e w = turned-keeps (quarter_count m.quarters) (mirror_steps m.mirrored (edition_steps e w)) (mirror_answer m.mirrored (edition_answer e w)) (mirror-keeps m.mirrored (edition_steps e w) (edition_answer e w) (edition-keeps e w))
