-- The exact sines of whole quarters, by computation.
use mathlib.Core.Path.{refl}
use Rattle.circle.specs.Series.{sin_series, cos_series}
use Rattle.circle.specs.Circle.{step, quarter, turns, nearest, exact_sine, exact_cosine, QuarterSines, QuarterCosines}

pub quarter_sines : QuarterSines
unfolding exact_sine nearest turns quarter sin_series cos_series step
quarter_sines = (record { eq = refl }, record { eq = refl }, record { eq = refl }, record { eq = refl })

pub quarter_cosines : QuarterCosines
unfolding exact_cosine nearest turns quarter sin_series cos_series step
quarter_cosines = (record { eq = refl }, record { eq = refl }, record { eq = refl }, record { eq = refl })
