use Rattle.gs_play.specs.Sides.{side_frame, side_lists}
use Rattle.gs_play.proofs.FirstMoves.{AreFirstTo}
use Rattle.gs_play.proofs.answers.take_first.Given as goal

abbrev pub invariant-loop-class : goal.invariant-loop-class
invariant-loop-class l = AreFirstTo (side_frame l.side) (side_lists l.side) l.point l.class l.initial.taken l.taken
