use Rattle.std.proofs.Common.{◌≡◌, map, take, string_bytes}
use Rattle.gs_model.specs.Signals.{signals}
use Rattle.gs_tree.specs.{Texts.{signal_text}, Trees.{rules_of, deck_of}}
use Rattle.gs_text.proofs.classes.signal_texts.Given as goal

abbrev pub invariant-loop-signal : goal.invariant-loop-signal
invariant-loop-signal l = map string_bytes l.texts.items ≡ map (signal_text (deck_of l.signals)) (take l.signal (signals (rules_of l.signals) l.round))
