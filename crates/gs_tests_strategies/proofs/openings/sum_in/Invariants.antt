use Rattle.std.proofs.Common.{◌≡◌, ◌*ℤ◌}
use Rattle.gs_simplex.specs.{Numbers.{at}, Program.{number}, Sums.{sum_to}}
use Rattle.gs_tests_strategies.proofs.openings.sum_in.Given as goal

abbrev pub invariant-loop-row : goal.invariant-loop-row
invariant-loop-row l = l.total ≡ sum_to l.row (λ i. at l.multipliers i *ℤ number l.p i l.column)
