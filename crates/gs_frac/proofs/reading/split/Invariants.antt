use Rattle.std.proofs.Common.{◌≡◌, ◌++◌, take, drop}
use Rattle.std.specs.Prelude.{option_map}
use Rattle.gs_frac.specs.Texts.{sides}
use Rattle.gs_frac.proofs.reading.split.Given as goal

abbrev pub invariant-loop-i : goal.invariant-loop-i
invariant-loop-i l = sides l.bytes ≡ option_map (λ p. (take l.i l.bytes ++ p.0, p.1)) (sides (drop l.i l.bytes))
