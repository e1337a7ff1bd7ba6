use Rattle.gs_simplex.proofs.PairLists.{IsMarked}
use Rattle.gs_simplex.proofs.best.mark_rows.Given as goal

abbrev pub invariant-loop-place : goal.invariant-loop-place
invariant-loop-place l = IsMarked l.basis l.fn.rows l.rows l.place
