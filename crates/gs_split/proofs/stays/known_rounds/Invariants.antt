use Rattle.gs_model.specs.Frame.{frame_of}
use Rattle.gs_tree.specs.Trees.{rules_of}
use Rattle.gs_split.proofs.Known.{AreKnownTo}
use Rattle.gs_split.proofs.stays.known_rounds.Given as goal

abbrev pub invariant-loop-above : goal.invariant-loop-above
invariant-loop-above l = AreKnownTo (frame_of (rules_of l.signals)) l.before.lists l.classes.lists l.above l.known.items
