use Rattle.std.proofs.Common.{◌≡◌, ◌++◌, length, string_bytes}
use Rattle.std.specs.{Prelude.{flat_map}, List.{range_with_len}}
use Rattle.gs_model.specs.{Classes.{class_count}, Deals.{deals}, Frame.{frame_of, total_weight}, Signals.{signals}}
use Rattle.gs_tree.specs.Trees.{rules_of}
use Rattle.gs_text.specs.ClassText.{deals_line, round_line}
use Rattle.gs_text.proofs.summary.summary_text.Given as goal

abbrev pub invariant-loop-index : goal.invariant-loop-index
invariant-loop-index l = string_bytes l.text ≡ deals_line (length (deals (rules_of l.signals))) (total_weight (frame_of (rules_of l.signals)))
    ++ flat_map (λ round. round_line round (class_count l.classes.lists round) (length (signals (rules_of l.signals) round))) (range_with_len 1 l.index)
