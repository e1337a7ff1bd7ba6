use Rattle.std.proofs.Common.{ℕ, ◌<◌, length}
use Rattle.gs_tests_strategies.specs.Openings.{HasRowBefore}
use Rattle.gs_tests_strategies.proofs.openings.names_all_rows.Given as goal

abbrev pub invariant-loop-row : goal.invariant-loop-row
invariant-loop-row l = (i : ℕ) → i < l.row → HasRowBefore l.opening (length l.opening) i
