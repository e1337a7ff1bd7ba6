use Rattle.std.proofs.Common.{◌≡◌, [], All, length, Vec, Global}
use Rattle.gs_lossless.proofs.lists.empty_lists.Given as goal

abbrev pub invariant-loop-n : goal.invariant-loop-n
invariant-loop-n g l = record {
  long : length l.lists.items ≡ l._n;
  empty : All (λ (v : Vec g.row.T.Denot Global). v.items ≡ []) l.lists.items;
}
