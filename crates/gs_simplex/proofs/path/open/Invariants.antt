use Rattle.std.proofs.Common.{take}
use Rattle.gs_simplex.specs.State.{IsState}
use Rattle.gs_simplex.proofs.path.open.Given as goal

abbrev pub invariant-loop-step : goal.invariant-loop-step
invariant-loop-step l = IsState l.p l.opening l.step (take l.step l.opening) l.table
