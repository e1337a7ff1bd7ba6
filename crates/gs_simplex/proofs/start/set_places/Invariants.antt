use Rattle.std.proofs.Common.{length, slice_index}
use Rattle.gs_simplex.specs.{Numbers.{at}, Columns.{IsSetRow}}
use Rattle.gs_simplex.proofs.start.set_places.Given as goal

abbrev pub invariant-loop-j : goal.invariant-loop-j
invariant-loop-j l = IsSetRow l.rows (length l.part) l.j (slice_index l.stands) l.i (at l.row) (at l.part)
