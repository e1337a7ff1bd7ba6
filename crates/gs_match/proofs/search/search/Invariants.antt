use Rattle.std.proofs.Common.{◌≡◌, ◌≤◌, ◌+◌, ◌-◌, length}
use Rattle.gs_model.specs.Rows.{rows}
use Rattle.gs_match.specs.Search.{IsTree, AreExplored, visit}
use Rattle.gs_match.proofs.search.search.Given as goal

abbrev pub invariant-loop-place : goal.invariant-loop-place
invariant-loop-place l = record {
  within : l.place ≤ length l.visits.items;
  root : (visit l.visits.items 0).left ≡ l.root;
  tree : IsTree (rows l.adjacent) l.holders l.visits.items l.reached.items;
  explored : AreExplored (rows l.adjacent) l.visits.items l.reached.items l.place;
}

abbrev pub decreases-loop-place : goal.decreases-loop-place
decreases-loop-place l = length l.holders + 1 - l.place
