use Rattle.std.proofs.Common.{◌≡◌, ◌≢◌, ℕ, ◌<◌, slice_index_or}
use Rattle.gs_simplex.proofs.tracing.replace.Given as goal

abbrev pub invariant-loop-place : goal.invariant-loop-place
invariant-loop-place l = record {
  same : l.basis ≡ l.fn.basis;
  none : (k : ℕ) → k < l.place → (slice_index_or l.fn.basis k (0, 0)).1 ≢ l.turn.leave;
}
