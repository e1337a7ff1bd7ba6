use Rattle.std.proofs.Common.{◌≡◌, ◌<◌, ◌≤◌, ℕ, drop, get_or}
use Rattle.gs_seq.specs.declared.pair.Pair.{Pair}
use Rattle.gs_seq.proofs.Turns.{passed}
use Rattle.gs_seq.proofs.pairs.first_after.Given as goal

abbrev pub invariant-loop-pair : goal.invariant-loop-pair
invariant-loop-pair l = record {
  on : l.pair-iterator ≡ drop (passed l.fn.pairs l.pair-iterator) l.fn.pairs;
  low : (k : ℕ) (d : Pair) → k < passed l.fn.pairs l.pair-iterator → (get_or l.fn.pairs k d).two ≤ l.after;
}
