use Rattle.std.proofs.Common.{ℕ, ◌<◌}
use Rattle.gs_simplex.specs.{Rows.{IsNarrow}, Numbers.{at}}
use Rattle.gs_tests_strategies.proofs.openings.all_narrow.Given as goal

abbrev pub invariant-loop-number : goal.invariant-loop-number
invariant-loop-number l = (k : ℕ) → k < l.number-index → IsNarrow (at l.numbers k)
