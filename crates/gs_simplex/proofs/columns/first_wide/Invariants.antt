use Rattle.std.proofs.Common.{ℕ, ◌<◌, ℤ, length, slice_index}
use Rattle.gs_simplex.specs.{Rows.{IsNarrow}, Columns.{in_columns, IsTimes}}
use Rattle.gs_simplex.proofs.columns.first_wide.Given as goal

abbrev pub invariant-loop-j : goal.invariant-loop-j
invariant-loop-j l = (k : ℕ) → k < l.j → (row : ℕ → ℤ) → IsTimes l.by l.mixed row
    → IsNarrow (in_columns l.rows (length l.mixed) (slice_index l.stands) l.i row k)
