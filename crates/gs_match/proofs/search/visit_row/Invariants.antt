use Rattle.std.proofs.Common.{◌≡◌, ◌<◌, ℕ, true, get_or}
use Rattle.gs_model.specs.Rows.{rows}
use Rattle.gs_match.specs.Search.{IsTree, Extends, is_reached}
use Rattle.gs_match.proofs.search.visit_row.Given as goal

abbrev pub invariant-loop-right : goal.invariant-loop-right
invariant-loop-right l = record {
  tree : IsTree (rows l.adjacent) l.holders l.visits.items l.reached;
  extends : Extends l.initial.visits.items l.initial.reached l.visits.items l.reached;
  seen : (k : ℕ) → k < l.right-index → is_reached l.reached (get_or l.right-items k 0) ≡ true;
}
