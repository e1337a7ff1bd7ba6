use Rattle.std.proofs.Common.{◌≡◌, ◌*◌, ◌≤◌, ◌^◌, sum_by}
use Rattle.std.specs.List.{range_with_len}
use Rattle.gs_seq.specs.{Abstracts.{abstract_frame, lists_of}, Plans.{lifted}}
use Rattle.gs_lift.proofs.shares.total_weight.Given as goal

abbrev pub invariant-loop-choice : goal.invariant-loop-choice
invariant-loop-choice l = record {
  sum_is : l.total ≡ sum_by (λ c. (lifted (abstract_frame l.a) (lists_of l.a) l.plan).number l.spot.point l.spot.signal c) (range_with_len 0 l.choice);
  within : l.total ≤ l.choice * (2 ^ 64);
}
