use Rattle.std.proofs.Common.{◌≡◌, ◌+◌, ◌<◌, ℕ}
use Rattle.gs_model.specs.Classes.{class_of}
use Rattle.gs_seq.proofs.single.is_single.Given as goal

abbrev pub invariant-loop-signal : goal.invariant-loop-signal
invariant-loop-signal l = (s : ℕ) → s < l.signal → class_of l.classes.lists l.round s ≡ s + 1
