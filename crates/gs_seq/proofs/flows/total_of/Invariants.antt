use Rattle.std.proofs.Common.{◌≡◌, ◌*◌, ◌≤◌, ◌^◌, sum, take}
use Rattle.gs_seq.proofs.flows.total_of.Given as goal

abbrev pub invariant-loop-weight : goal.invariant-loop-weight
invariant-loop-weight l = record {
  sum_is : l.total ≡ sum (take l.weight-index l.weights);
  within : l.total ≤ l.weight-index * (2 ^ 64);
}
