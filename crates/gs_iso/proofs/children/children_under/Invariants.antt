use Rattle.std.proofs.Common.{◌≡◌, ◌+◌, ◌-◌, map}
use Rattle.std.specs.List.{range_with_len}
use Rattle.gs_tree.specs.Trees.{rules_of}
use Rattle.gs_iso.specs.Numbers.{child_part}
use Rattle.gs_iso.proofs.children.children_under.Given as goal

abbrev pub invariant-loop-child : goal.invariant-loop-child
invariant-loop-child l = l.children.items ≡ map (child_part (rules_of l.signals) (l.round + 1) l.below) (range_with_len l.first (l.child - l.first))
