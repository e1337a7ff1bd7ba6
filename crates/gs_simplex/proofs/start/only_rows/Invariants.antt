use Rattle.std.proofs.Common.{◌≡◌, ◌+◌, length, slice_index}
use Rattle.gs_simplex.specs.State.{AreOnly}
use Rattle.gs_simplex.proofs.start.only_rows.Given as goal

abbrev pub invariant-loop-i : goal.invariant-loop-i
invariant-loop-i l = record { long : length l.stands.items ≡ l.p.cols + 2; only : AreOnly l.p l.i (slice_index l.stands.items) }
