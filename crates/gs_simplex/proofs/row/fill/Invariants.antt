use Rattle.gs_simplex.specs.Numbers.{at}
use Rattle.gs_simplex.proofs.Supports.{AreFilled}
use Rattle.gs_simplex.proofs.row.fill.Given as goal

abbrev pub invariant-loop-j : goal.invariant-loop-j
invariant-loop-j l = AreFilled (at l.row) l.filled l.count l.j
