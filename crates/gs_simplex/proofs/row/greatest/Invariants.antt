use Rattle.std.proofs.Common.{ℕ, ◌<◌, ◌≤◌, slice_index, unsigned_abs}
use Rattle.gs_simplex.specs.Numbers.{at}
use Rattle.gs_simplex.proofs.row.greatest.Given as goal

abbrev pub invariant-loop-k : goal.invariant-loop-k
invariant-loop-k l = (h : ℕ) → h < l.k → unsigned_abs (at l.row (slice_index l.places h)) ≤ l.most
