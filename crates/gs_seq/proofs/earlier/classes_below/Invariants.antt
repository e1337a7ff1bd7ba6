use Rattle.gs_seq.specs.Rows.{AreBelow}
use Rattle.gs_seq.proofs.earlier.classes_below.Given as goal

abbrev pub invariant-loop-before : goal.invariant-loop-before
invariant-loop-before l = AreBelow l.classes l.round l.before l.below.items
