use Rattle.std.proofs.Common.{◌≡◌, ◌-◌, ◌*◌, ◌^◌, ◌≤◌, get_or}
use Rattle.std.specs.{Prelude.{pos, unsigned_abs}, List.{range_with_len}}
use Rattle.gs_model.specs.Sums.{sum_z}
use Rattle.gs_best.proofs.gathering.sum_between.Given as goal

abbrev pub invariant-loop-place : goal.invariant-loop-place
invariant-loop-place l = record {
  sum_is : l.sum ≡ sum_z (λ k. get_or l.values k (pos 0)) (range_with_len l.fn.first (l.place - l.fn.first));
  within : unsigned_abs l.sum ≤ (l.place - l.fn.first) * (2 ^ 90);
}
