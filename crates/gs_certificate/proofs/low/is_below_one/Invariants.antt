use Rattle.std.proofs.Common.{ℕ, ◌<◌}
use Rattle.std.specs.Prelude.{◌≤ℤ◌}
use Rattle.gs_model.specs.{BestAnswers.{class_worth}, Positions.{at_point}}
use Rattle.gs_best.specs.Sides.{frame_at, lists_at}
use Rattle.gs_certificate.specs.Claims.{claimed}
use Rattle.gs_certificate.proofs.low.is_below_one.Given as goal

abbrev pub invariant-loop-choice : goal.invariant-loop-choice
invariant-loop-choice l = let k = l.spot.claim in let q = l.spot.point in
    (m : ℕ) → m < l.choice → class_worth (frame_at k.side) (lists_at k.side) (claimed k) q m l.class ≤ℤ claimed k (at_point q) l.class
