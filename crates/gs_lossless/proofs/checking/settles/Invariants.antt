use Rattle.std.proofs.Common.{◌<◌, ℕ, length}
use Rattle.gs_model.specs.{Frame.{frame_of}, Signals.{signals}}
use Rattle.gs_tree.specs.Trees.{rules_of}
use Rattle.gs_lossless.specs.{Scans.{AgreeBelow}, declared.aspects.Aspect.TheVariants.{Children}}
use Rattle.gs_lossless.proofs.checking.settles.Given as goal

abbrev pub invariant-loop-round : goal.invariant-loop-round
invariant-loop-round l = (r : ℕ) → 0 < r → r < l.round → AgreeBelow (frame_of (rules_of l.grouped.signals.now)) l.grouped.classes.now.lists Children r
    (length (signals (rules_of l.grouped.signals.now) r))
