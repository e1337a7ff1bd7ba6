use Rattle.std.proofs.Common.{◌-◌, length, string_bytes}
use Rattle.gs_tree.specs.Trees.{deck_of, rules_of}
use Rattle.gs_text.specs.ClassText.{signal_texts}
use Rattle.gs_text.proofs.Lines.{IsToldTo}
use Rattle.gs_text.proofs.classes.push_class.Given as goal

abbrev pub invariant-loop-next : goal.invariant-loop-next
invariant-loop-next l = IsToldTo (signal_texts (deck_of l.signals) (rules_of l.signals) l.round) l.classes.lists l.round l.class l.next
    (string_bytes l.fn.text) (string_bytes l.text)

abbrev pub decreases-loop-next : goal.decreases-loop-next
decreases-loop-next l = length l.nexts - l.next
