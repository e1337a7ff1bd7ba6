use Rattle.std.proofs.Common.{◌≤◌}
use Rattle.gs_model.specs.{Frame.{frame_of, last_round}, Rows.{rows}}
use Rattle.gs_tree.specs.Trees.{rules_of}
use Rattle.gs_split.specs.Proposal.{AreFairFrom}
use Rattle.gs_split.proofs.proposal.all_numbers.Given as goal

abbrev pub invariant-loop-round : goal.invariant-loop-round
invariant-loop-round l = record {
  some : 1 ≤ l.round;
  within : l.round ≤ last_round (frame_of (rules_of l.grouped.signals.now));
  fair : AreFairFrom (frame_of (rules_of l.grouped.signals.now)) l.grouped.classes.now.lists l.round (rows l.numbers.items);
}
