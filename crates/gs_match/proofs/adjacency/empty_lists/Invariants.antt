use Rattle.std.proofs.Common.{◌≡◌, ℕ, [], length}
use Rattle.gs_model.specs.Rows.{rows}
use Rattle.gs_match.specs.Adjacency.{row_of}
use Rattle.gs_match.proofs.adjacency.empty_lists.Given as goal

abbrev pub invariant-loop-n : goal.invariant-loop-n
invariant-loop-n l = record {
  long : length l.lists.items ≡ l._n;
  empty : (k : ℕ) → row_of (rows l.lists.items) k ≡ [];
}
