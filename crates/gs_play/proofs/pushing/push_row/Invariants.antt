use Rattle.gs_play.specs.{Sides.{side_frame, side_lists}, Tallies.{KeepsChoices}}
use Rattle.gs_play.proofs.Pushed.{IsPushedBy}
use Rattle.gs_play.proofs.pushing.push_row.Given as goal

abbrev pub invariant-loop-pair : goal.invariant-loop-pair
invariant-loop-pair l = record {
  kept : KeepsChoices (side_frame l.side) (side_lists l.side) l.initial.tally l.tally;
  walk : IsPushedBy l.side l.end l.class l.is_on l.now l.pair-iterator l.initial.tally l.tally;
}
