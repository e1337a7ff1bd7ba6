use Rattle.gs_iso.proofs.Pairs.{AreRowEdges}
use Rattle.gs_iso.proofs.equals.join_equals.Given as goal

abbrev pub invariant-loop-right : goal.invariant-loop-right
invariant-loop-right g l = AreRowEdges g.P.PartialEq.eq l.ones l.twos l.left l.right l.edges.items
