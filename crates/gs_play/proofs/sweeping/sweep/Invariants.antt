use Rattle.std.proofs.Common.{◌*◌, length}
use Rattle.gs_play.specs.{DueTurns.{IsNoneDue}, Sides.{side_frame, side_lists}, Tallies.{IsSwept}}
use Rattle.gs_play.proofs.sweeping.sweep.Given as goal

abbrev pub invariant-loop-block : goal.invariant-loop-block
invariant-loop-block l = let f = side_frame l.side in let lists = side_lists l.side in record {
  none : IsNoneDue l.tally.dues.turns.items (l.block * 64) (length l.tally.dues.turns.items) l.clock.turn;
  swept : IsSwept f lists l.side.player l.clock.turn l.initial.tally l.tally;
}
