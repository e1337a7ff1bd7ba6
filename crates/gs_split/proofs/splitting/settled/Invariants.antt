use Rattle.std.proofs.Common.{◌≡◌, ◌-◌, ◌^◌}
use Rattle.gs_model.specs.Frame.{frame_of}
use Rattle.gs_tree.specs.Trees.{rules_of}
use Rattle.gs_split.specs.Turns.{AreKnown}
use Rattle.gs_split.proofs.Splits.{IsUnderway}
use Rattle.gs_split.proofs.splitting.settled.Given as goal

abbrev pub invariant-loop-total : goal.invariant-loop-total
invariant-loop-total l = record {
  parents : l.classes.parents ≡ (frame_of (rules_of l.signals)).parents;
  known : AreKnown (frame_of (rules_of l.signals)) l.classes.lists l.known.items;
  underway : IsUnderway (frame_of (rules_of l.signals)) l.from.lists l.classes.lists l.total;
}

abbrev pub decreases-loop-total : goal.decreases-loop-total
decreases-loop-total l = 2 ^ 40 - l.total
