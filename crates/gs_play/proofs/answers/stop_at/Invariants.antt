use Rattle.std.proofs.Common.{◌≡◌, ℕ, ◌<◌}
use Rattle.gs_model.specs.{Classes.{IsClass}, Frame.{round_of}, Positions.{at_point}}
use Rattle.gs_best.specs.Tables.{moves_of}
use Rattle.gs_play.specs.{PlanSums.{ArePlansAlike}, Answers.{AreKeptBut, HasAnswer, plan_after}, Sides.{side_frame, side_lists}}
use Rattle.gs_play.proofs.answers.stop_at.Given as goal

abbrev pub invariant-loop-class : goal.invariant-loop-class
invariant-loop-class l = let f = side_frame l.side in let lists = side_lists l.side in record {
  answer : HasAnswer f lists l.side.player l.last l.answer;
  none : (c : ℕ) → IsClass lists (round_of f (at_point l.point)) c → c < l.class → moves_of f lists l.answer.taken.items l.point c ≡ 255;
  elsewhere : AreKeptBut f lists l.point l.initial.answer.taken.items l.answer.taken.items;
  plan : ArePlansAlike f lists l.side.player (plan_after f lists l.answer l.last) (plan_after f lists l.initial.answer l.last);
}
