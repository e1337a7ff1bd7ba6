use Rattle.std.proofs.Common.{◌≡◌, ◌<◌, ℕ, Some, length, get_or}
use Rattle.gs_match.specs.Search.{holder}
use Rattle.gs_match.proofs.matching.by_left.Given as goal

abbrev pub invariant-loop-right : goal.invariant-loop-right
invariant-loop-right l = record {
  long : length l.to.items ≡ length l.holders;
  each : (b a : ℕ) → b < l.right → holder l.holders b ≡ Some a → get_or l.to.items a 0 ≡ b;
}
