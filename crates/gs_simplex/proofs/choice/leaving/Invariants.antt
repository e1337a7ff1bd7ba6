use Rattle.gs_simplex.specs.Table.{grid_of}
use Rattle.gs_simplex.proofs.Choosing.{IsLeastSoFar}
use Rattle.gs_simplex.proofs.choice.leaving.Given as goal

abbrev pub invariant-loop-place : goal.invariant-loop-place
invariant-loop-place l = IsLeastSoFar l.p l.basis (grid_of l.p l.table) l.e l.place l.best
