use Rattle.std.proofs.Common.{◌≡◌, length}
use Rattle.gs_model.specs.Rows.{rows}
use Rattle.gs_match.specs.Search.{IsMatching}
use Rattle.gs_match.proofs.matching.perfect.Given as goal

abbrev pub invariant-loop-root : goal.invariant-loop-root
invariant-loop-root l = record {
  wide : length l.holders.items ≡ l.graph.right;
  matching : IsMatching (rows l.adjacent.items) l.holders.items l.root;
}
