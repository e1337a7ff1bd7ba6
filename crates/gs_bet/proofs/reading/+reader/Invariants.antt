use Rattle.std.proofs.Common.{◌≡◌, ◌+◌, ◌*◌, ◌-◌, ◌<◌, length}
use Rattle.gs_model.specs.Betting.{none}
use Rattle.gs_bet.specs.{TreeView.{plain_moves}, Reading.{moves_at, inner_at, act_at}}
use Rattle.gs_bet.proofs.reading.+reader.Given as goal

abbrev pub decreases-move_of : goal.decreases-move_of
decreases-move_of l = 4 * l.left + 2

abbrev pub decreases-moves_of : goal.decreases-moves_of
decreases-moves_of l = 4 * l.left + 3

abbrev pub decreases-inner_of : goal.decreases-inner_of
decreases-inner_of l = 4 * l.left + 1

abbrev pub decreases-act_of : goal.decreases-act_of
decreases-act_of l = 4 * l.left

abbrev pub invariant-moves_of-loop-moves : goal.invariant-moves_of-loop-moves
invariant-moves_of-loop-moves l = record {
  read : moves_at (inner_at (act_at l.left)) (26 - length l.moves.items) (plain_moves l.moves.items) l.rest
      ≡ moves_at (inner_at (act_at l.left)) 26 none l.bytes;
  room : length l.moves.items < 26;
}

abbrev pub decreases-moves_of-loop-moves : goal.decreases-moves_of-loop-moves
decreases-moves_of-loop-moves l = 26 - length l.moves.items
