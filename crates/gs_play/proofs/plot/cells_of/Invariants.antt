use Rattle.std.proofs.Common.{◌≡◌, length}
use Rattle.gs_seq.specs.Abstracts.{abstract_frame, lists_of}
use Rattle.gs_best.specs.Tables.{start_of}
use Rattle.gs_play.specs.Plots.{AreCells}
use Rattle.gs_play.proofs.plot.cells_of.Given as goal

abbrev pub invariant-loop-point : goal.invariant-loop-point
invariant-loop-point l = let f = abstract_frame l.form in let lists = lists_of l.form in record {
  long : length l.points.items ≡ start_of f lists l.point;
  cells : AreCells f lists l.points.items;
}
