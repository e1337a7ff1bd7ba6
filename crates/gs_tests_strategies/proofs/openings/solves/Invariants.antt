use Rattle.std.proofs.Common.{◌≡◌, ℕ, ◌<◌, ◌*ℤ◌}
use Rattle.gs_simplex.specs.{Numbers.{at}, Program.{number}, Sums.{sum_to}}
use Rattle.gs_tests_strategies.proofs.openings.solves.Given as goal

abbrev pub invariant-loop-place : goal.invariant-loop-place
invariant-loop-place l = (i : ℕ) → i < l.place → sum_to l.p.cols (λ j. number l.p i j *ℤ at l.values j) ≡ l.over *ℤ number l.p i l.p.cols
