use Rattle.std.proofs.Common.{◌≡◌, ℕ, ◌<◌, length, slice_index}
use Rattle.std.specs.List.{HoldsAt}
use Rattle.gs_simplex.specs.{Table.{grid_of}, Values.{IsColumnValue}}
use Rattle.gs_simplex.proofs.best.values.Given as goal

abbrev pub invariant-loop-j : goal.invariant-loop-j
invariant-loop-j l = record {
  long : length l.value.items ≡ l.j;
  done : (k : ℕ) → k < l.j → HoldsAt (IsColumnValue l.p (grid_of l.p l.table) (slice_index l.rows k) k) l.value.items k;
}
