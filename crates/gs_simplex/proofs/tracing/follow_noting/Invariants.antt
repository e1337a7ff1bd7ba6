use Rattle.std.proofs.Common.{◌≡◌, ◌+◌, ◌≤◌, length}
use Rattle.gs_simplex.specs.{State.{IsState}, Trace.{AreTurns}}
use Rattle.gs_simplex.proofs.tracing.follow_noting.Given as goal

abbrev pub invariant-loop-made : goal.invariant-loop-made
invariant-loop-made l = record {
  within : l.made ≤ l.limit;
  state : IsState l.p l.opening (length l.opening + l.made) l.basis l.table;
  long : length l.turns.items ≡ l.made;
  turns : AreTurns l.p l.opening l.turns.items;
}
