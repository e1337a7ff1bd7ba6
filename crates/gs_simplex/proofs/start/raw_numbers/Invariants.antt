use Rattle.std.proofs.Common.{slice_index}
use Rattle.gs_simplex.proofs.Slots.{AreRawSoFar}
use Rattle.gs_simplex.proofs.start.raw_numbers.Given as goal

abbrev pub invariant-loop-i : goal.invariant-loop-i
invariant-loop-i l = AreRawSoFar l.p l.width l.i (slice_index l.stands) l.numbers.items
