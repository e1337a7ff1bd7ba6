use Rattle.gs_simplex.specs.Numbers.{at, IsDivisor}
use Rattle.gs_simplex.proofs.row.divisor.Given as goal

abbrev pub invariant-loop-number : goal.invariant-loop-number
invariant-loop-number l = IsDivisor l.number-index (at l.mixed) l.found
