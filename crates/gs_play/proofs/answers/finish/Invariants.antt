use Rattle.gs_play.specs.Sides.{side_frame, side_lists}
use Rattle.gs_play.proofs.Started.{IsStoppedBefore}
use Rattle.gs_play.proofs.answers.finish.Given as goal

abbrev pub invariant-loop-point : goal.invariant-loop-point
invariant-loop-point l = IsStoppedBefore (side_frame l.side) (side_lists l.side) l.side.player l.point l.last l.initial.answer l.answer
