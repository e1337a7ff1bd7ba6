use Rattle.std.proofs.Common.{◌≢◌, ℕ, ◌<◌, slice_index_or}
use Rattle.gs_tests_strategies.proofs.openings.is_new.Given as goal

abbrev pub invariant-loop-before : goal.invariant-loop-before
invariant-loop-before l = (k : ℕ) → k < l.before → ((slice_index_or l.opening k (0, 0)).0 ≢ (slice_index_or l.opening l.step (0, 0)).0)
    × ((slice_index_or l.opening k (0, 0)).1 ≢ (slice_index_or l.opening l.step (0, 0)).1)
