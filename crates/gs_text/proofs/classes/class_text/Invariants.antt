use Rattle.std.proofs.Common.{◌≡◌, string_bytes}
use Rattle.std.specs.{Prelude.{flat_map}, List.{range_with_len}}
use Rattle.gs_model.specs.Classes.{list_of}
use Rattle.gs_tree.specs.Trees.{rules_of, deck_of}
use Rattle.gs_text.specs.ClassText.{round_text, signal_texts}
use Rattle.gs_text.proofs.classes.class_text.Given as goal

abbrev pub invariant-loop-index : goal.invariant-loop-index
invariant-loop-index l = string_bytes l.text ≡ flat_map (λ round. round_text round (signal_texts (deck_of l.signals) (rules_of l.signals) round)
    (list_of l.classes.lists round)) (range_with_len 1 l.index)
