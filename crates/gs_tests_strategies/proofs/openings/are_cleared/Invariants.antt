use Rattle.std.proofs.Common.{◌≡◌, ℕ, ◌+◌, ◌<◌, pos, slice_index_or}
use Rattle.gs_tests_strategies.specs.Openings.{combined}
use Rattle.gs_tests_strategies.proofs.openings.are_cleared.Given as goal

abbrev pub invariant-loop-place : goal.invariant-loop-place
invariant-loop-place l = (k j : ℕ) → k < l.place → (slice_index_or l.opening k (0, 0)).1 ≡ j + 1 → combined l.p l.multipliers j ≡ pos 0
