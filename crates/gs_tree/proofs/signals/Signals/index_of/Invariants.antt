use Rattle.std.proofs.Common.{ℕ, ◌<◌, ◌≢◌}
use Rattle.gs_model.specs.Signals.{signal_at}
use Rattle.gs_tree.specs.{Texts.{signal_text}, Trees.{rules_of, deck_of}}
use Rattle.gs_tree.proofs.signals.Signals.index_of.Given as goal

abbrev pub invariant-loop-signal : goal.invariant-loop-signal
invariant-loop-signal l = (k : ℕ) → k < l.signal → l.fn.text ≢ signal_text (deck_of l.self) (signal_at (rules_of l.self) l.round k)
