use Rattle.std.proofs.Common.{◌≡◌, ◌++◌, length, string_bytes}
use Rattle.std.specs.{Prelude.{flat_map}, List.{range_with_len, zip}}
use Rattle.gs_model.specs.Classes.{class_count, list_of}
use Rattle.gs_tree.specs.Trees.{deck_of, rules_of}
use Rattle.gs_text.specs.ClassText.{class_line, round_line, signal_texts}
use Rattle.gs_text.proofs.classes.push_round.Given as goal

abbrev pub invariant-loop-index : goal.invariant-loop-index
invariant-loop-index l =
    let texts = signal_texts (deck_of l.signals) (rules_of l.signals) l.round in
    string_bytes l.text ≡ (string_bytes l.fn.text ++ round_line l.round (class_count l.classes.lists l.round) (length texts))
    ++ flat_map (class_line (zip texts (list_of l.classes.lists l.round))) (range_with_len 1 l.index)
