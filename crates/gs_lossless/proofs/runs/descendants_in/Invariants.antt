use Rattle.std.proofs.Common.{◌≤◌}
use Rattle.gs_model.specs.{Frame.{frame_of}, Game.{round_count}}
use Rattle.gs_tree.specs.Trees.{rules_of}
use Rattle.gs_lossless.specs.Amounts.{IsRunIn}
use Rattle.gs_lossless.proofs.runs.descendants_in.Given as goal

abbrev pub invariant-loop-at : goal.invariant-loop-at
invariant-loop-at l = record {
  to : l.at ≤ round_count (rules_of l.signals);
  run : IsRunIn (frame_of (rules_of l.signals)) l.at l.round l.signal l.first l.end;
}
