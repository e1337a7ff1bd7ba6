use Rattle.std.proofs.Common.{◌≡◌, ◌-◌, map}
use Rattle.std.specs.List.{range_with_len}
use Rattle.gs_lossless.specs.Amounts.{counted_part}
use Rattle.gs_lossless.proofs.aspects.child_parts.Given as goal

abbrev pub invariant-loop-child : goal.invariant-loop-child
invariant-loop-child l = l.parts.items ≡ map (counted_part l.keys) (range_with_len l.fn.run.first (l.child - l.fn.run.first))
