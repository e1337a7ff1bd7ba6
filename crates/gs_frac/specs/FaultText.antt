-- What a fault prints.
use Rattle.std.specs.Prelude.{ℕ, List, codes}
use Rattle.gs_frac.specs.{declared.fault.FracFault.{FracFault}, declared.fault.FracFault.TheVariants.{NotFraction, TooWide, NotReduced}}

-- what a fault prints
abbrev pub fault_text : FracFault → List ℕ
fault_text NotFraction = codes "not a fraction"
fault_text TooWide = codes "too wide"
fault_text NotReduced = codes "not reduced"
