use Rattle.std.proofs.Common.{◌≡◌, length}
use Rattle.gs_model.specs.{Frame.{last_step, player_at}, Positions.{at_point}}
use Rattle.gs_seq.specs.Abstracts.{abstract_frame, lists_of}
use Rattle.gs_best.specs.Tables.{start_of}
use Rattle.gs_play.specs.Plots.{AreAbove}
use Rattle.gs_play.proofs.plot.gates_of.Given as goal

abbrev pub invariant-loop-point : goal.invariant-loop-point
invariant-loop-point l = let f = abstract_frame l.form in let lists = lists_of l.form in record {
  long : length l.gates.items ≡ start_of f lists l.point;
  above : AreAbove f lists (λ q. last_step f (player_at f q) (at_point q)) l.gates.items;
}
