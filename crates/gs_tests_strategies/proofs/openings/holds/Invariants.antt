use Rattle.std.proofs.Common.{◌≡◌, ◌*ℤ◌}
use Rattle.gs_simplex.specs.{Numbers.{at}, Sums.{sum_to}}
use Rattle.gs_tests_strategies.proofs.openings.holds.Given as goal

abbrev pub invariant-loop-place : goal.invariant-loop-place
invariant-loop-place l = l.total ≡ sum_to l.place (λ j. at l.numbers j *ℤ at l.values j)
