use Rattle.std.proofs.Common.{◌≡◌, ◌<◌, ℕ, take}
use Rattle.gs_filter.specs.Tallies.{tallies_of, IsNextNumber}
use Rattle.gs_filter.proofs.tally.count_members.Given as goal

abbrev pub invariant-loop-at : goal.invariant-loop-at
invariant-loop-at l = record {
  tallied : l.tallies.items ≡ tallies_of (take l.at l.list);
  counted : (k : ℕ) → k < l.at → IsNextNumber l.list k;
}
