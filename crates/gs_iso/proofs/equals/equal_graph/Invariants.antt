use Rattle.gs_iso.specs.Pairings.{AreEqualEdges}
use Rattle.gs_iso.proofs.equals.equal_graph.Given as goal

abbrev pub invariant-loop-left : goal.invariant-loop-left
invariant-loop-left g l = AreEqualEdges g.P.PartialEq.eq l.ones l.twos l.left l.edges.items
