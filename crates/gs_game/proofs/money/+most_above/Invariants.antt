use Rattle.std.proofs.Common.{◌≡◌, ◌≤◌, ◌+◌, ◌^◌, max, ◌<◌, drop}
use Rattle.gs_bet.specs.{TreeView.{plain, plain_moves}, declared.shape.Act.{out-Act}}
use Rattle.gs_game.specs.Money.{most_put, most_moved, put_above}
use Rattle.gs_game.proofs.{MoneyLaws.{MovesFit}, Sizes.{bet_size, moves_size}}
use Rattle.gs_game.proofs.money.+most_above.Given as goal

abbrev pub decreases-most_above : goal.decreases-most_above
decreases-most_above l = bet_size (plain l.tree.now)

abbrev pub invariant-loop-next : goal.invariant-loop-next
invariant-loop-next l = record {
  most : most_put (put_above l.above) l.put.one l.put.two (plain l.tree)
      ≡ max l.most (most_moved (put_above l.above) l.put.one l.put.two (out-Act l.act).player (plain_moves (drop l.next-index l.next-items)));
  falls : moves_size (plain_moves (drop l.next-index l.next-items)) < bet_size (plain l.tree);
  fits : MovesFit l.put.one l.put.two (plain_moves (drop l.next-index l.next-items));
  small : l.most ≤ 2 ^ 24 + l.above;
}
