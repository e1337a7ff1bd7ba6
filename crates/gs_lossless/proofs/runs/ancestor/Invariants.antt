use Rattle.std.proofs.Common.{◌≡◌, ◌<◌, ◌≤◌, length}
use Rattle.gs_model.specs.{Frame.{ancestor, at_round, frame_of}, Game.{round_count}, Signals.{signals}}
use Rattle.gs_tree.specs.Trees.{rules_of}
use Rattle.gs_lossless.proofs.runs.ancestor.Given as goal

abbrev pub invariant-loop-at : goal.invariant-loop-at
invariant-loop-at l = record {
  from : l.round ≤ l.at;
  to : l.at ≤ round_count (rules_of l.signals);
  within : l.place < length (signals (rules_of l.signals) l.at);
  same : ancestor (frame_of (rules_of l.signals)) l.at l.round l.place ≡ at_round (frame_of (rules_of l.signals)) l.round l.signal;
}

abbrev pub decreases-loop-at : goal.decreases-loop-at
decreases-loop-at l = l.at
