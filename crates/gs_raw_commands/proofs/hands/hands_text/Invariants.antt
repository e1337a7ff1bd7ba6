use Rattle.std.proofs.Common.{◌≡◌, get_or, map, pos, string_bytes}
use Rattle.std.specs.List.{flat_map, range_with_len}
use Rattle.gs_strategy.specs.Views.{parts_of}
use Rattle.gs_tree.specs.Trees.{deck_of, rules_of}
use Rattle.gs_raw_commands.specs.Judging.{hand_line}
use Rattle.gs_raw_commands.proofs.hands.hands_text.Given as goal

abbrev pub invariant-loop-signal : goal.invariant-loop-signal
invariant-loop-signal l =
    string_bytes l.text ≡ flat_map (λ s. hand_line (deck_of l.signals) (rules_of l.signals) s (get_or (map parts_of l.values) s (pos 0, pos 1)))
    (range_with_len 0 l.signal)
