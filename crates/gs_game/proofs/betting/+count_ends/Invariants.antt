use Rattle.std.proofs.Common.{◌≡◌, ◌≤◌, ◌+◌, ◌-◌, ◌^◌, min, drop}
use Rattle.gs_bet.specs.TreeView.{plain, plain_moves}
use Rattle.gs_game.specs.Counts.{ends_of, move_ends}
use Rattle.gs_game.proofs.betting.+count_ends.Given as goal

abbrev pub decreases-count_ends : goal.decreases-count_ends
decreases-count_ends l = goal.size-count_ends l

abbrev pub invariant-loop-next : goal.invariant-loop-next
invariant-loop-next l = record {
  rest : min (ends_of l.more (plain l.tree)) (2 ^ 128 - 1) ≡ min (l.ends + move_ends l.more (plain_moves (drop l.next-index l.next-items))) (2 ^ 128 - 1);
  small : l.ends ≤ 2 ^ 128 - 1;
}
