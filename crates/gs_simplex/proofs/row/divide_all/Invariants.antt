use Rattle.std.proofs.Common.{◌≡◌, ◌≢◌, ℕ, ◌<◌, slice_index, pos, ◌*ℤ◌}
use Rattle.gs_simplex.specs.{Rows.{IsNarrow}, Numbers.{at}}
use Rattle.gs_simplex.proofs.row.divide_all.Given as goal

abbrev pub invariant-loop-k : goal.invariant-loop-k
invariant-loop-k l = record {
  each : (h : ℕ) → h < l.k → at l.fn.row (slice_index l.places h) ≡ pos l.by *ℤ at l.row (slice_index l.places h);
  narrow : (h : ℕ) → h < l.k → IsNarrow (at l.row (slice_index l.places h));
  left : (j : ℕ) → ((h : ℕ) → h < l.k → slice_index l.places h ≢ j) → at l.row j ≡ at l.fn.row j;
}
