use Rattle.std.proofs.Common.{arith}
use Rattle.gs_tree.proofs.signals.Signals.text.Goals as goal

pub returns : goal.returns
returns c = grind arith

pub push_signal-requires-clause-signal_in : goal.push_signal-requires-clause-signal_in
push_signal-requires-clause-signal_in c = grind arith
