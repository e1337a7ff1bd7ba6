use Rattle.std.proofs.Common.{◌≤◌, length}
use Rattle.gs_play.specs.{DueTurns.{IsNoneDue}, Sides.{side_frame, side_lists}, Tallies.{IsSwept}}
use Rattle.gs_play.proofs.sweeping.sweep_block.Given as goal

abbrev pub invariant-loop-left : goal.invariant-loop-left
invariant-loop-left l = let f = side_frame l.side in let lists = side_lists l.side in record {
  from : l.from ≤ l.left;
  most : l.left ≤ l.stop;
  few : l.left ≤ length l.tally.totals.items;
  none : IsNoneDue l.tally.dues.turns.items l.left (length l.tally.dues.turns.items) l.clock.turn;
  swept : IsSwept f lists l.side.player l.clock.turn l.initial.tally l.tally;
}

abbrev pub decreases-loop-left : goal.decreases-loop-left
decreases-loop-left l = l.left
