use Rattle.std.proofs.Common.{ℕ, ◌<◌, [], map, vec_items, slice_index_or}
use Rattle.gs_tests_strategies.specs.Openings.{IsWideRow}
use Rattle.gs_tests_strategies.proofs.openings.all_rows.Given as goal

abbrev pub invariant-loop-row : goal.invariant-loop-row
invariant-loop-row l = (k : ℕ) → k < l.row-index → IsWideRow l.width (slice_index_or (map vec_items l.rows) k [])
