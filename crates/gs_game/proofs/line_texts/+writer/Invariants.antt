use Rattle.std.proofs.Common.{◌≡◌, ◌≤◌, ◌+◌, ℕ, true, drop}
use Rattle.std.specs.String.{string_bytes}
use Rattle.gs_bet.specs.{Grammar.{are_sound}, TreeView.{plain, plain_moves}, declared.shape.Act.{out-Act}}
use Rattle.gs_game.specs.{Counts.{move_points, move_ends}, Games.{plain_trees}, Lines.{IsAmong, MovesFollow, lines_from, move_lines, text_at}, Seen.{target_of}}
use Rattle.gs_game.proofs.Sizes.{steps_of, moves_steps, steps_in}
use Rattle.gs_game.proofs.line_texts.+writer.Given as goal

abbrev pub decreases-push_from : goal.decreases-push_from
decreases-push_from l = steps_in (plain_trees l.rounds.now)

abbrev pub decreases-push_below : goal.decreases-push_below
decreases-push_below l = steps_of (steps_in (plain_trees l.rest.now)) (plain l.tree.now)

abbrev pub decreases-push_act : goal.decreases-push_act
decreases-push_act l = moves_steps (steps_in (plain_trees l.rest.now)) (plain_moves (out-Act l.act.now).moves.items) + 1

abbrev pub invariant-push_act-loop-next : goal.invariant-push_act-loop-next
invariant-push_act-loop-next l = record {
  same : text_at (move_lines (lines_from (plain_trees l.rest)) (string_bytes l.fn.out) (plain_moves (out-Act l.act).moves.items)) (target_of l.fn.at)
      ≡ text_at (move_lines (lines_from (plain_trees l.rest)) (string_bytes l.fn.out) (plain_moves (drop l.next-index l.next-items))) (target_of l.at);
  out : string_bytes l.out ≡ string_bytes l.fn.out;
  within : IsAmong (move_points l.more.points (plain_moves (drop l.next-index l.next-items)))
      (move_ends l.more.ends (plain_moves (drop l.next-index l.next-items))) (target_of l.at);
  room : MovesFollow (plain_trees l.rest) (plain_moves (drop l.next-index l.next-items)) 0 0;
  sound : (left : ℕ) × (are_sound left (plain_moves (drop l.next-index l.next-items)) ≡ true);
  falls : moves_steps (steps_in (plain_trees l.rest)) (plain_moves (drop l.next-index l.next-items))
      ≤ moves_steps (steps_in (plain_trees l.rest)) (plain_moves (out-Act l.act).moves.items);
}
