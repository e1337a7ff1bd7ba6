use Rattle.gs_tree.specs.Trees.{rules_of}
use Rattle.gs_iso.specs.Numbers.{child_part}
use Rattle.gs_iso.proofs.{FirstSeen.{AreSeen}, Exact.{child_eq, child_exact}}
use Rattle.gs_iso.proofs.children.edge_marks.Given as goal

abbrev pub invariant-loop-signal : goal.invariant-loop-signal
invariant-loop-signal l = AreSeen child_eq child_exact (child_part (rules_of l.signals) l.round l.numbers) l.seen.keys l.marks.items l.signal
