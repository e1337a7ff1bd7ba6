use Rattle.std.proofs.Common.{◌≡◌, map}
use Rattle.std.specs.List.{range_with_len}
use Rattle.gs_model.specs.{Classes.{class_of}, Frame.{at_round, frame_of}}
use Rattle.gs_tree.specs.Trees.{rules_of}
use Rattle.gs_lossless.proofs.keys.ancestor_classes.Given as goal

abbrev pub invariant-loop-signal : goal.invariant-loop-signal
invariant-loop-signal l = l.keys.items ≡ map (λ x. class_of l.grouped.classes.now.lists l.round
    (at_round (frame_of (rules_of l.grouped.signals.now)) l.round x)) (range_with_len 0 l.signal)
