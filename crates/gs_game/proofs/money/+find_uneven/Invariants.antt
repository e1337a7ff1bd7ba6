use Rattle.std.proofs.Common.{◌≡◌, ◌<◌, drop}
use Rattle.gs_bet.specs.{TreeView.{plain, plain_moves}, declared.shape.Act.{out-Act}}
use Rattle.gs_game.specs.Money.{uneven_path, uneven_move}
use Rattle.gs_game.proofs.{MoneyLaws.{MovesFit}, Sizes.{bet_size, moves_size}}
use Rattle.gs_game.proofs.money.+find_uneven.Given as goal

abbrev pub decreases-find_uneven : goal.decreases-find_uneven
decreases-find_uneven l = bet_size (plain l.tree.now)

abbrev pub invariant-loop-next : goal.invariant-loop-next
invariant-loop-next l = record {
  search : uneven_path l.fn.path.items l.put.one l.put.two (plain l.tree)
      ≡ uneven_move l.path.items l.put.one l.put.two (out-Act l.act).player (plain_moves (drop l.next-index l.next-items));
  falls : moves_size (plain_moves (drop l.next-index l.next-items)) < bet_size (plain l.tree);
  fits : MovesFit l.put.one l.put.two (plain_moves (drop l.next-index l.next-items));
  path : l.path.items ≡ l.fn.path.items;
}
