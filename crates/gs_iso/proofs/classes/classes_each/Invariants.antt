use Rattle.gs_iso.specs.Numbers.{class_key}
use Rattle.gs_iso.proofs.{FirstSeen.{AreSeen}, Exact.{child_eq, child_exact}}
use Rattle.gs_iso.proofs.classes.classes_each.Given as goal

abbrev pub invariant-loop-at : goal.invariant-loop-at
invariant-loop-at l = AreSeen child_eq child_exact (class_key l.items.above.now l.items.parents.now l.items.numbers.now) l.seen.keys l.classes.items l.at
