use Rattle.std.proofs.Common.{◌<◌, ◌≤◌, ℕ}
use Rattle.gs_model.specs.Frame.{frame_of, signal_count}
use Rattle.gs_tree.specs.Trees.{rules_of}
use Rattle.gs_lossless.specs.Stops.{AreAlikeBelow}
use Rattle.gs_lossless.proofs.checking.first_unlike.Given as goal

abbrev pub invariant-loop-before : goal.invariant-loop-before
invariant-loop-before l = (r : ℕ) → 0 < r → r ≤ l.before → AreAlikeBelow (frame_of (rules_of l.grouped.signals.now)) l.grouped.classes.now.lists r
    (signal_count (frame_of (rules_of l.grouped.signals.now)) r)
