use Rattle.std.proofs.Common.{◌≡◌, ℕ, ◌<◌, ◌≤◌, neg_ℤ}
use Rattle.gs_simplex.specs.Numbers.{at}
use Rattle.gs_simplex.proofs.table.turn.Given as goal

abbrev pub invariant-loop-x : goal.invariant-loop-x
invariant-loop-x l = record {
  done : (k : ℕ) → k < l.x-index → at l.row k ≡ neg_ℤ (at l.fn.row k);
  left : (k : ℕ) → l.x-index ≤ k → at l.row k ≡ at l.fn.row k;
}
