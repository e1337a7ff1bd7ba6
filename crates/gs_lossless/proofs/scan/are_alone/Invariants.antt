use Rattle.gs_lossless.specs.Scans.{AreAloneBelow}
use Rattle.gs_lossless.proofs.scan.are_alone.Given as goal

abbrev pub invariant-loop-signal : goal.invariant-loop-signal
invariant-loop-signal l = AreAloneBelow l.classes.lists l.round l.signal
