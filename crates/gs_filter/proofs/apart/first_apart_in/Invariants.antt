use Rattle.std.proofs.Common.{◌<◌, ℕ}
use Rattle.gs_filter.specs.Faults.{StaysTogether}
use Rattle.gs_filter.proofs.apart.first_apart_in.Given as goal

abbrev pub invariant-loop-at : goal.invariant-loop-at
invariant-loop-at l = (s : ℕ) → s < l.at → StaysTogether l.parents l.above l.list s
