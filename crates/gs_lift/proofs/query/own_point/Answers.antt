use Rattle.std.proofs.Common.{◌≡◌, ◌<◌, get_or, sym, ◌∙◌, arith}
use Rattle.gs_model.specs.Frame.{player_at, point_count}
use Rattle.gs_seq.specs.Games.{frame_in}
use Rattle.gs_seq.proofs.Points.{length-points, place_reads}
use Rattle.gs_lift.proofs.{Spots.{point_in}, query.own_point.Goals.{After-index-points-point, In-Some}}
use Rattle.gs_lift.proofs.query.own_point.Goals as goal

inside : (c : In-Some) → c.in-Some.point < point_count (frame_in c.args.game.now)
inside c = point_in c.args.game.now c.args.line.now c.in-Some.point c.in-Some.ensures

-- who chooses at the point
whose : (c : After-index-points-point) → (get_or c.points.result.now c.in-Some.point c.index-points-point.result).player ≡ player_at
    (frame_in c.args.game.now) c.in-Some.point
whose c = (place_reads c.args.game.now c.points.result.now c.in-Some.point c.index-points-point.result c.points.ensures
    (inside (goal.at.After-index-points-point c).In-Some) c.index-points-point.is).player

pub bounds-points-point : goal.bounds-points-point
bounds-points-point c = omega (arith, inside (goal.at.bounds-points-point c).In-Some, length-points c.args.game.now c.points.result.now c.points.ensures)

pub bounds-points-point-in-Some : goal.bounds-points-point-in-Some
bounds-points-point-in-Some c = omega (
  arith,
  inside (goal.at.bounds-points-point-in-Some c).In-Some,
  length-points c.args.game.now c.points.result.now
      c.points.ensures,
)

pub returns-then-points-point : goal.returns-then-points-point
returns-then-points-point c =
    let at = goal.at.returns-then-points-point c in
    record { in_range = inside at.In-Some; named = c.in-Some.ensures; own = sym (whose at.After-index-points-point) ∙ c.if-points-point.true }

pub returns-else-points-point : goal.returns-else-points-point
returns-else-points-point c = (
  c.in-Some.point,
  c.in-Some.ensures,
  λ own. c.if-points-point.false
      (whose (goal.at.returns-else-points-point c).After-index-points-point ∙ own),
)
