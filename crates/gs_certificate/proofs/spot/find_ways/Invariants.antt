use Rattle.std.proofs.Common.{◌≡◌, ℕ, ◌<◌, get_or}
use Rattle.gs_game.specs.Seen.{target_of}
use Rattle.gs_model.specs.Frame.{leads_to}
use Rattle.gs_best.specs.Sides.{frame_at, lists_at}
use Rattle.gs_certificate.specs.{Claims.{IsWay}, declared.way.Way.{Way}}
use Rattle.gs_certificate.proofs.spot.find_ways.Given as goal

abbrev pub invariant-loop-choice : goal.invariant-loop-choice
invariant-loop-choice l = let s = l.spot.claim.side in record {
  each : (m : ℕ) (d : Way) → m < l.choice → IsWay (frame_at s) (lists_at s) (get_or l.ways m d);
  leads : (m : ℕ) (d : Way) → m < l.choice → target_of (get_or l.ways m d).to ≡ leads_to (frame_at s) l.spot.point m;
}
