use Rattle.std.proofs.Common.{◌≡◌, ◌≤◌, ◌+◌, drop}
use Rattle.gs_bet.specs.{TreeView.{plain, plain_moves}, declared.shape.Act.{out-Act}}
use Rattle.gs_game.specs.{Games.{plain_trees}, Lines.{follow_moves, follow_from, MovesFollow}}
use Rattle.gs_game.proofs.Sizes.{steps_of, moves_steps, steps_in}
use Rattle.gs_game.proofs.lines.+follower.Given as goal

abbrev pub decreases-follow_from : goal.decreases-follow_from
decreases-follow_from l = steps_in (plain_trees l.rounds.now)

abbrev pub decreases-follow_below : goal.decreases-follow_below
decreases-follow_below l = steps_of (steps_in (plain_trees l.rest.now)) (plain l.tree.now)

abbrev pub decreases-follow_act : goal.decreases-follow_act
decreases-follow_act l = moves_steps (steps_in (plain_trees l.rest.now)) (plain_moves (out-Act l.act.now).moves.items) + 1

abbrev pub invariant-follow_act-loop-next : goal.invariant-follow_act-loop-next
invariant-follow_act-loop-next l = record {
  same : follow_moves (follow_from (plain_trees l.rest)) l.more.points l.more.ends l.fn.before.points l.fn.before.ends
      (plain_moves (out-Act l.act).moves.items) l.letter l.text
      ≡ follow_moves (follow_from (plain_trees l.rest)) l.more.points l.more.ends l.before.points l.before.ends
      (plain_moves (drop l.next-index l.next-items)) l.letter l.text;
  room : MovesFollow (plain_trees l.rest) (plain_moves (drop l.next-index l.next-items)) l.before.points l.before.ends;
  falls : moves_steps (steps_in (plain_trees l.rest)) (plain_moves (drop l.next-index l.next-items))
      ≤ moves_steps (steps_in (plain_trees l.rest)) (plain_moves (out-Act l.act).moves.items);
}
