use Rattle.std.proofs.Common.{ℕ, ◌<◌, ◌≤◌}
use Rattle.gs_seq.specs.{Faults.{FlowsAt}, Games.{frame_in}, Slots.{plan_of}}
use Rattle.gs_seq.proofs.flows.first_leak_at.Given as goal

abbrev pub invariant-loop-before : goal.invariant-loop-before
invariant-loop-before l = (k : ℕ) → 0 < k → k ≤ l.before → FlowsAt (frame_in l.game) l.classes.lists l.player
    (plan_of (frame_in l.game) l.classes.lists l.total l.weights) l.point k
