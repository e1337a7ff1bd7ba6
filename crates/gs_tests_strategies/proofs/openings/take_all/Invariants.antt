use Rattle.std.proofs.Common.{ℕ, ◌<◌}
use Rattle.gs_tests_strategies.specs.Openings.{IsTakenAt}
use Rattle.gs_tests_strategies.proofs.openings.take_all.Given as goal

abbrev pub invariant-loop-step : goal.invariant-loop-step
invariant-loop-step l = (k : ℕ) → k < l.step → IsTakenAt l.p l.opening k
