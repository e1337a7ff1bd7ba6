use Rattle.std.proofs.Common.{◌≡◌, ◌≢◌, ℕ, ◌<◌, pos}
use Rattle.gs_simplex.specs.Numbers.{at}
use Rattle.gs_tests_strategies.specs.Openings.{HasRowBefore}
use Rattle.gs_tests_strategies.proofs.openings.are_taken.Given as goal

abbrev pub invariant-loop-row : goal.invariant-loop-row
invariant-loop-row l = (i : ℕ) → i < l.row → i ≢ l.own → (HasRowBefore l.opening l.step i → ⊥) → at l.multipliers i ≡ pos 0
