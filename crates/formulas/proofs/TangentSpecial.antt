-- Infinities and NaNs: neither tangent answers a number.
use lib.Ieee.{binary32, of_bits}
use Rattle.formulas.specs.Tangent.{TangentsNotFinite}
use Rattle.formulas.proofs.Ways.{tanf-nan, tanpif-nan}
use Rattle.formulas.proofs.Special.{special-word}

pub tangents_not_finite : TangentsNotFinite
tangents_not_finite = (λ w h e. tanf-nan (of_bits binary32 w) (special-word w e), λ w h e. tanpif-nan (of_bits binary32 w) (special-word w e))
