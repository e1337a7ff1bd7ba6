use Rattle.std.proofs.Common.{slice_index}
use Rattle.gs_simplex.proofs.Living.{AreLiveSoFar}
use Rattle.gs_simplex.proofs.columns.live_places.Given as goal

abbrev pub invariant-loop-j : goal.invariant-loop-j
invariant-loop-j l = AreLiveSoFar l.rows l.width (slice_index l.stands) l.live l.found l.j
