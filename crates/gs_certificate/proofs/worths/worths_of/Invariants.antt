use Rattle.std.proofs.Common.{◌≡◌, ◌*◌, ◌^◌, ◌≤◌}
use Rattle.std.specs.{Prelude.{unsigned_abs}, List.{range_with_len}}
use Rattle.gs_model.specs.Sums.{sum_z}
use Rattle.gs_best.specs.{ClassTotals.{total_worth}, Sides.{frame_at, lists_at}}
use Rattle.gs_certificate.specs.Claims.{claimed_totals}
use Rattle.gs_certificate.proofs.worths.worths_of.Given as goal

abbrev pub invariant-loop-choice : goal.invariant-loop-choice
invariant-loop-choice l = let k = l.spot.claim in record {
  sum_is : l.sum ≡ sum_z (λ m. total_worth (frame_at k.side) (lists_at k.side) (claimed_totals k) l.spot.point m l.class) (range_with_len 0 l.choice);
  within : unsigned_abs l.sum ≤ l.choice * (200000 * 2 ^ 90);
}
