use Rattle.gs_simplex.proofs.Traces.{IsBasisBelow}
use Rattle.gs_simplex.proofs.tracing.columns_of.Given as goal

abbrev pub invariant-loop-j : goal.invariant-loop-j
invariant-loop-j l = IsBasisBelow l.basis l.j l.columns.items
