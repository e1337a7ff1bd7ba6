use Rattle.std.proofs.Common.{◌≡◌, length}
use Rattle.gs_game.specs.Games.{game_of}
use Rattle.gs_model.specs.Signals.{signals}
use Rattle.gs_tree.specs.Tables.{AreTables}
use Rattle.gs_tree.proofs.tables.Tables.of.Given as goal

abbrev pub invariant-loop-next : goal.invariant-loop-next
invariant-loop-next l = record {
  tables : AreTables (game_of l.valid.game) l.tables.parents.items l.tables.layers.items;
  rounds : length l.tables.layers.items ≡ l.next-index;
  counted : l.count ≡ length (signals (game_of l.valid.game) l.next-index);
}
