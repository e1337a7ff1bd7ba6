use Rattle.std.proofs.Common.{◌-◌, slice_index, unsigned_abs}
use Rattle.gs_simplex.specs.{Rows.{IsNarrow}, Numbers.{at, IsDivisor}}
use Rattle.gs_simplex.proofs.row.narrow_divisor.Given as goal

abbrev pub invariant-loop-k : goal.invariant-loop-k
invariant-loop-k l = record {
  all : IsDivisor l.k (λ h. at l.row (slice_index l.places (l.found - 1 - h))) (unsigned_abs l.common.number);
  narrow : IsNarrow l.common.number;
}
