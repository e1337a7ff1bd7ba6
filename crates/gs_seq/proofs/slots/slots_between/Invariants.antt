use Rattle.std.proofs.Common.{◌≡◌, ◌+◌}
use Rattle.gs_seq.specs.{Games.{frame_in}, Slots.{slots_before}}
use Rattle.gs_seq.proofs.slots.slots_between.Given as goal

abbrev pub invariant-loop-point : goal.invariant-loop-point
invariant-loop-point l = slots_before (frame_in l.game) l.classes.lists l.player l.from + l.slots
    ≡ slots_before (frame_in l.game) l.classes.lists l.player l.point
