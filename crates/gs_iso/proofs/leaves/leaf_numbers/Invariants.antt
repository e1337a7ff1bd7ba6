use Rattle.std.proofs.Common.{replicate}
use Rattle.gs_tree.specs.{Trees.{rules_of}, Walk.{last_count}}
use Rattle.gs_iso.proofs.Becoming.{AreBecoming}
use Rattle.gs_iso.proofs.leaves.leaf_numbers.Given as goal

abbrev pub invariant-loop-signal : goal.invariant-loop-signal
invariant-loop-signal l = AreBecoming (rules_of l.signals) (replicate (last_count (rules_of l.signals)) 0) l.seen.keys l.numbers.items l.signal
