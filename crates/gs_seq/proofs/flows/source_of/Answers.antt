use Rattle.std.proofs.Common.{◌≡◌, ◌<◌, Some, get_or, ap, sym, refl, ◌∙◌, subst, arith}
use Rattle.gs_game.specs.{Seen.{step_of}, declared.positions.Point.{Point}}
use Rattle.gs_model.specs.{Frame.{last_step}, Positions.{at_point}}
use Rattle.gs_seq.specs.{Games.{frame_in}, Sources.{MatchSource}}
use Rattle.gs_seq.proofs.{Coming.{made, none_made}, Points.{Reads, length-points, place_in, point_reads, walked_at}}
use Rattle.gs_seq.proofs.flows.source_of.Goals.{After-index-points-point, In_ok-step}
use Rattle.gs_seq.proofs.flows.source_of.Goals as goal

-- the point that was read, with the own step before it
own_is : (c : After-index-points-point) → c.index-points-point.result.own ≡ (get_or c.points.result.now c.args.point c.index-points-point.result).own
own_is c = ap (λ (p : Point). p.own) c.index-points-point.is

read : (c : After-index-points-point) → Reads (frame_in c.args.game.now) c.args.point c.index-points-point.result
read c = point_reads c.args.game.now c.points.result.now c.args.point c.index-points-point.result c.points.ensures c.requires.in_range c.index-points-point.is

pub returns-in_err-step : goal.returns-in_err-step
returns-in_err-step c =
    let at = (goal.at.returns-in_err-step c).After-index-points-point in
    subst (MatchSource (frame_in c.args.game.now) c.args.classes.now.lists c.args.player (at_point c.args.point)) (sym c.from_residual.ensures)
    (none_made (frame_in c.args.game.now) c.args.player c.args.point c.index-points-point.result (read at) c.requires.own (own_is at ∙ c.in_err-step.was))

-- the step was made, and its point is earlier
record IsEarlier (c : In_ok-step) : Type 0 where
  made : last_step (frame_in c.args.game.now) c.args.player (at_point c.args.point) ≡ Some (step_of c.in_ok-step.step)
  before : c.in_ok-step.step.point < c.args.point

earlier : (c : In_ok-step) → IsEarlier c
earlier c =
    let at = (goal.at.In_ok-step c).After-index-points-point in
    let e = made (frame_in c.args.game.now) c.args.player c.args.point c.index-points-point.result c.in_ok-step.step (read at) c.requires.own
    (own_is at ∙ c.in_ok-step.was) in
    record {
      made = e;
      before = (walked_at c.args.game.now c.args.player c.args.point c.requires.in_range c.requires.own).earlier c.args.point (step_of c.in_ok-step.step)
          c.requires.in_range e;
    }

pub bounds-points-step : goal.bounds-points-step
bounds-points-step c = omega (
  arith,
  (earlier (goal.at.bounds-points-step c).In_ok-step).before,
  c.requires.in_range,
  length-points c.args.game.now c.points-2.result.now c.points-2.ensures,
)

pub returns : goal.returns
returns c =
    let u = step_of c.in_ok-step.step in
    let e = earlier (goal.at.returns c).In_ok-step in
    let b = point_reads c.args.game.now c.points-2.result.now u.point c.index-points-step.result c.points-2.ensures (omega (arith, e.before, c.requires.in_range))
    c.index-points-step.is in (
      u,
      record {
        made = e.made;
        round = b.round;
        first = omega (arith, c.requires.first, c.slots_between.ensures);
        moves = omega (arith, c.len.ensures, b.moves);
        choice = refl;
      },
    )

pub bounds-points-point-2 : goal.bounds-points-point-2
bounds-points-point-2 c = place_in c.args.game.now c.points.result.now c.args.point c.points.ensures c.requires.in_range

pub bounds-points-point : goal.bounds-points-point
bounds-points-point c = place_in c.args.game.now c.points.result.now c.args.point c.points.ensures c.requires.in_range

pub slots_between-requires : goal.slots_between-requires
slots_between-requires c = record {
  parents = grind arith;
  ordered = omega (arith, (earlier (goal.at.slots_between-requires c).In_ok-step).before);
  in_range = omega arith;
}
