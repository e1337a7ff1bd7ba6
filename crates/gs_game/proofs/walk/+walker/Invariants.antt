use Rattle.std.proofs.Common.{◌≡◌, ◌≤◌, ◌+◌, ◌-◌, length, drop}
use Rattle.gs_bet.specs.{TreeView.{plain, plain_act, plain_moves}, declared.shape.Act.{out-Act}}
use Rattle.gs_game.specs.Games.{plain_trees}
use Rattle.gs_game.proofs.{Sizes.{steps_of, moves_steps, steps_in}, ActWalk.{ActGoing}}
use Rattle.gs_game.proofs.walk.+walker.Given as goal

abbrev pub decreases-walk_from : goal.decreases-walk_from
decreases-walk_from l = steps_in (plain_trees l.rounds.now)

abbrev pub decreases-walk_below : goal.decreases-walk_below
decreases-walk_below l = steps_of (steps_in (plain_trees l.rest.now)) (plain l.tree.now)

abbrev pub decreases-walk_act : goal.decreases-walk_act
decreases-walk_act l = steps_of (steps_in (plain_trees l.rest.now)) (plain_act l.act.now) - 1

abbrev pub invariant-walk_act-loop-next : goal.invariant-walk_act-loop-next
invariant-walk_act-loop-next l = record {
  going : ActGoing (plain_trees l.rest) (out-Act l.act).player (plain_moves l.next-items)
      (plain_moves (drop l.next-index l.next-items)) l.place l.fn.walk.points.items l.walk.points.items
      l.fn.walk.ends.items l.walk.ends.items l.arrows.items;
  choice : length l.arrows.items ≡ l.next-index;
  few : length l.next-items ≤ 26;
  falls : moves_steps (steps_in (plain_trees l.rest)) (plain_moves (drop l.next-index l.next-items)) + 2
      ≤ steps_of (steps_in (plain_trees l.rest)) (plain_act l.act);
}
