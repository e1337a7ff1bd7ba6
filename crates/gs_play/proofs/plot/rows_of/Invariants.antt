use Rattle.std.proofs.Common.{◌≡◌, length}
use Rattle.gs_seq.specs.Abstracts.{abstract_frame, lists_of}
use Rattle.gs_best.specs.Tables.{start_of}
use Rattle.gs_play.specs.Plots.{AreRowsBefore, worth_start}
use Rattle.gs_play.proofs.plot.rows_of.Given as goal

abbrev pub invariant-loop-point : goal.invariant-loop-point
invariant-loop-point l = let f = abstract_frame l.form in let lists = lists_of l.form in record {
  many : length l.rows.items ≡ l.point;
  rows : AreRowsBefore f lists l.point l.rows.items;
  cell_is : l.cell ≡ start_of f lists l.point;
  worth_is : l.worth ≡ worth_start f lists l.point;
}
