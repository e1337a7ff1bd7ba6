use Rattle.std.proofs.Common.{◌≡◌, ◌<◌, ℕ, get_or, length}
use Rattle.std.specs.Prelude.{◌%◌, ◌^◌}
use Rattle.gs_split.proofs.Proposed.{terms_to}
use Rattle.gs_split.proofs.proposal.child_numbers.Given as goal

abbrev pub invariant-loop-child : goal.invariant-loop-child
invariant-loop-child l = record {
  long : length l.sums.items ≡ l.count;
  each : (s : ℕ) → s < length l.sums.items → get_or l.sums.items s 0 ≡ terms_to l.parents l.classes l.numbers l.child s % 2 ^ 32;
}
