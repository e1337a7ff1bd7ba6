use Rattle.std.proofs.Common.{◌≡◌, ◌++◌, replicate}
use Rattle.gs_play.proofs.plot.add_cells.Given as goal

abbrev pub invariant-loop-n : goal.invariant-loop-n
invariant-loop-n l = l.points.items ≡ l.initial.points.items ++ replicate l._n l.point
