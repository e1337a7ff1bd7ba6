use Rattle.std.proofs.Common.{◌≡◌}
use Rattle.gs_seq.specs.{Faults.{FlowsBefore}, Games.{frame_in}, Slots.{plan_of, slots_before}}
use Rattle.gs_seq.proofs.flows.first_leak.Given as goal

abbrev pub invariant-loop-point : goal.invariant-loop-point
invariant-loop-point l = record {
  first_is : l.first ≡ slots_before (frame_in l.game) l.classes.lists l.player l.point;
  flows : FlowsBefore (frame_in l.game) l.classes.lists l.player (plan_of (frame_in l.game) l.classes.lists l.total l.weights) l.point;
}
