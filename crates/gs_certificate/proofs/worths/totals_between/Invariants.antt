use Rattle.std.proofs.Common.{◌≡◌, ◌-◌, ◌*◌, ◌^◌, ◌≤◌, sum_by}
use Rattle.std.specs.{Prelude.{unsigned_abs}, List.{range_with_len}}
use Rattle.gs_game.specs.Seen.{target_of}
use Rattle.gs_model.specs.{Classes.{class_size}, Sums.{sum_z}}
use Rattle.gs_best.specs.Sides.{lists_at}
use Rattle.gs_certificate.specs.Claims.{claimed_totals}
use Rattle.gs_certificate.proofs.worths.totals_between.Given as goal

abbrev pub invariant-loop-class : goal.invariant-loop-class
invariant-loop-class l = record {
  sum_is : l.sum ≡ sum_z (claimed_totals l.claim (target_of l.way.to)) (range_with_len l.fn.first (l.class - l.fn.first));
  within : unsigned_abs l.sum ≤ sum_by (class_size (lists_at l.claim.side) l.way.round) (range_with_len l.fn.first (l.class - l.fn.first)) * 2 ^ 90;
}
