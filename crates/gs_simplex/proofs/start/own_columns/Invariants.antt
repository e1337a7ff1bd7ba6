use Rattle.std.proofs.Common.{◌≡◌, ◌+◌, length}
use Rattle.gs_simplex.proofs.start.own_columns.Given as goal

abbrev pub invariant-loop-j : goal.invariant-loop-j
invariant-loop-j l = length l.owns.items ≡ l.rows + 1
