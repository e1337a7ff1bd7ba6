use Rattle.std.proofs.Common.{◌≡◌, ◌<◌, ◌+◌, drop}
use Rattle.gs_bet.specs.TreeView.{plain, plain_moves}
use Rattle.gs_game.specs.Counts.{points_of, ends_of, move_points, move_ends}
use Rattle.gs_game.proofs.Sizes.{bet_size, moves_size}
use Rattle.gs_game.proofs.lines.+numbers_below.Given as goal

abbrev pub decreases-numbers_below : goal.decreases-numbers_below
decreases-numbers_below l = bet_size (plain l.tree.now)

abbrev pub invariant-loop-next : goal.invariant-loop-next
invariant-loop-next l = record {
  points : l.numbers.points + move_points l.more.points (plain_moves (drop l.next-index l.next-items)) ≡ points_of l.more.points (plain l.tree);
  ends : l.numbers.ends + move_ends l.more.ends (plain_moves (drop l.next-index l.next-items)) ≡ ends_of l.more.ends (plain l.tree);
  falls : moves_size (plain_moves (drop l.next-index l.next-items)) < bet_size (plain l.tree);
}
