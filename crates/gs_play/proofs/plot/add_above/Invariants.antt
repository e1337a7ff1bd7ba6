use Rattle.std.proofs.Common.{◌≡◌, ℕ, ◌+◌, ◌-◌, Option, length}
use Rattle.std.specs.Prelude.{option_map}
use Rattle.gs_game.specs.Seen.{step_of}
use Rattle.gs_model.specs.Positions.{Step}
use Rattle.gs_seq.specs.Abstracts.{abstract_frame, lists_of}
use Rattle.gs_best.specs.Tables.{start_of}
use Rattle.gs_play.specs.Plots.{AreAbove}
use Rattle.gs_play.proofs.plot.add_above.Given as goal

abbrev pub invariant-loop-class : goal.invariant-loop-class
invariant-loop-class l = let f = abstract_frame l.form in let lists = lists_of l.form in record {
  long : length l.cells.items ≡ start_of f lists l.point + (l.class - 1);
  above : (steps : ℕ → Option Step) → steps l.point ≡ option_map step_of l.step → AreAbove f lists steps l.initial.cells.items
      → AreAbove f lists steps l.cells.items;
}
