use Rattle.std.proofs.Common.{take}
use Rattle.gs_model.specs.Rows.{rows}
use Rattle.gs_match.specs.Adjacency.{AreNeighbours}
use Rattle.gs_match.proofs.adjacency.adjacency.Given as goal

abbrev pub invariant-loop-edge : goal.invariant-loop-edge
invariant-loop-edge l = AreNeighbours (record { left = l.graph.left; right = l.graph.right; edges = take l.edge-index l.graph.edges }) (rows l.lists.items)
