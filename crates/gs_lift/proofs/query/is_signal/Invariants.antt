use Rattle.std.proofs.Common.{ℕ, ◌<◌, ◌≤◌}
use Rattle.gs_lift.specs.Queries.{IsTextOfSignal}
use Rattle.gs_lift.proofs.query.is_signal.Given as goal

abbrev pub invariant-loop-before : goal.invariant-loop-before
invariant-loop-before l = (round : ℕ) → 0 < round → round ≤ l.before → (i : ℕ) → IsTextOfSignal l.signals round l.text i → ⊥
