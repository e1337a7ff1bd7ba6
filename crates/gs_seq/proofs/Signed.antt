-- A signed number that fits its bits is read back as it is.
use Rattle.std.proofs.Common.{◌≡◌, ◌∙◌, ℤ, FitsSigned, of_z, to_z, to_z-of_z}
use Rattle.std.specs.Int.{w128}

pub read_back : (z w : ℤ) → FitsSigned w128 z → z ≡ w → to_z w128 (of_z w128 z) ≡ w
read_back z w fits is = to_z-of_z {w = w128} {z = z} fits ∙ is
