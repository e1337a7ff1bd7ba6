use Rattle.gs_seq.proofs.Points.{length-points}
use Rattle.std.proofs.Common.{◌≡◌, Some, ap, sym, refl, ◌∙◌, subst, arith}
use Rattle.gs_game.specs.{Seen.{step_of}, declared.positions.Point.{Point}}
use Rattle.gs_model.specs.{Frame.{last_step, player_at}, Positions.{at_point}}
use Rattle.gs_seq.specs.{Games.{frame_in}, Slots.{slots_before}, Sources.{MatchSource}}
use Rattle.gs_seq.proofs.{Coming.{made, none_made}, Points.{Reads, point_reads, walked_at}, numbers.point_source.Goals.{After-index-points-point, In_ok-step}}
use Rattle.gs_seq.proofs.numbers.point_source.Goals as goal

-- what the point says
reads : (c : After-index-points-point) → Reads (frame_in c.args.game.now) c.args.point c.index-points-point.result
reads c = point_reads c.args.game.now c.points.result.now c.args.point c.index-points-point.result c.points.ensures c.requires.point c.index-points-point.is

-- the step before it
step : (c : In_ok-step) → last_step (frame_in c.args.game.now) (player_at (frame_in c.args.game.now) c.args.point) (at_point c.args.point) ≡ Some
    (step_of c.in_ok-step.step)
step c =
    let f = frame_in c.args.game.now in
    made f (player_at f c.args.point) c.args.point c.index-points-point.result c.in_ok-step.step (reads (goal.at.In_ok-step c).After-index-points-point) refl
    (ap (λ (p : Point). p.own) c.index-points-point.is ∙ c.in_ok-step.was)

pub returns-in_err-step : goal.returns-in_err-step
returns-in_err-step c =
    let f = frame_in c.args.game.now in
    let q = c.args.point in
    let r = reads (goal.at.returns-in_err-step c).After-index-points-point in
    let own = ap (λ (p : Point). p.own) c.index-points-point.is ∙ c.in_err-step.was in
    λ lists a. subst (MatchSource f lists (player_at f q) (at_point q)) (sym c.from_residual.ensures)
    (none_made f (player_at f q) q c.index-points-point.result r refl own)

pub returns : goal.returns
returns c =
    let f = frame_in c.args.game.now in
    let q = c.args.point in
    let u = step_of c.in_ok-step.step in
    let is = step (goal.at.returns c).In_ok-step in
    let w = walked_at c.args.game.now (player_at f q) q c.requires.point refl in
    let e = c.source_from.ensures in
    λ lists a. (
      u,
      record {
        made = is;
        round = e.round;
        first = e.first ∙ a.first u.point (omega (arith, w.earlier q u c.requires.point is, c.requires.point))
            ∙ ap (λ p. slots_before f lists p u.point) (w.chosen q u c.requires.point is).0;
        moves = e.moves;
        choice = e.choice;
      },
    )

pub bounds-points-point : goal.bounds-points-point
bounds-points-point c = omega (arith, c.requires.point, length-points c.args.game.now c.points.result.now c.points.ensures)

pub bounds-points-point-2 : goal.bounds-points-point-2
bounds-points-point-2 c = omega (arith, c.requires.point, length-points c.args.game.now c.points.result.now c.points.ensures)

pub source_from-requires : goal.source_from-requires
source_from-requires c = record {
  point = let q = c.args.point in
      let w = walked_at c.args.game.now (player_at (frame_in c.args.game.now) q) q c.requires.point refl in
      omega (arith, w.earlier q (step_of c.in_ok-step.step) c.requires.point (step (goal.at.source_from-requires c).In_ok-step), c.requires.point);
  long = grind arith;
}
