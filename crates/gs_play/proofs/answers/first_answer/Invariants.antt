use Rattle.std.proofs.Common.{◌≡◌, length}
use Rattle.gs_model.specs.Frame.{point_count}
use Rattle.gs_best.specs.Tables.{start_of}
use Rattle.gs_play.specs.Sides.{side_frame, side_lists}
use Rattle.gs_play.proofs.FirstMoves.{AreFirstBefore}
use Rattle.gs_play.proofs.answers.first_answer.Given as goal

abbrev pub invariant-loop-point : goal.invariant-loop-point
invariant-loop-point l = let f = side_frame l.side in let lists = side_lists l.side in record {
  long : length l.taken.items ≡ start_of f lists (point_count f);
  first : AreFirstBefore f lists l.side.player l.point l.taken.items;
}
