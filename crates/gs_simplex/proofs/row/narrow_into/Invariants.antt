use Rattle.gs_simplex.specs.Numbers.{IsQuotient}
use Rattle.gs_simplex.proofs.row.narrow_into.Given as goal

abbrev pub invariant-loop-j : goal.invariant-loop-j
invariant-loop-j l = IsQuotient l.by l.mixed l.row l.j
