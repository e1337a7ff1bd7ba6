use Rattle.std.proofs.Common.{◌-◌, length}
use Rattle.gs_tree.specs.Trees.{rules_of}
use Rattle.gs_lossless.specs.Rivals.{rival_of}
use Rattle.gs_tree.proofs.Chain.{IsOnChain}
use Rattle.gs_lossless.proofs.rivals.rivals_beside.Given as goal

abbrev pub invariant-loop-signal : goal.invariant-loop-signal
invariant-loop-signal l = IsOnChain (rules_of l.signals) (rival_of (rules_of l.signals) l.keys) l.first l.signal l.rivals.items

abbrev pub decreases-loop-signal : goal.decreases-loop-signal
decreases-loop-signal l = length l.nexts - l.signal
