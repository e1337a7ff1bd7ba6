use Rattle.std.proofs.Common.{ℕ, ◌<◌}
use Rattle.gs_tests_strategies.specs.Openings.{IsPlaced}
use Rattle.gs_tests_strategies.proofs.openings.are_placed.Given as goal

abbrev pub invariant-loop-column : goal.invariant-loop-column
invariant-loop-column l = (j : ℕ) → j < l.column → IsPlaced l.p l.opening l.values j
