use Rattle.std.proofs.Common.{◌≡◌, ◌<◌, length, ap, sym, refl, ◌∙◌, subst, arith}
use Rattle.std.specs.Prelude.{option_map}
use Rattle.gs_game.specs.Seen.{step_of}
use Rattle.gs_model.specs.Positions.{at_end}
use Rattle.gs_seq.specs.{Games.{frame_in}, Slots.{slots_before}, Sources.{MatchSource}}
use Rattle.gs_seq.proofs.{Points.{IsStepBefore, length-points, point_reads, step_before}, numbers.source_at_end.Goals.{In_ok-step}}
use Rattle.gs_seq.proofs.numbers.source_at_end.Goals as goal

-- the step, which is made at a point of the game
before : (c : In_ok-step) → IsStepBefore c.args.game.now c.args.player c.args.end c.in_ok-step.step
before c = step_before c.args.game.now c.args.player c.args.end _ c.in_ok-step.step c.requires.some c.requires.two c.requires.end c.end_step.ensures
    c.in_ok-step.was

pub returns-in_err-step : goal.returns-in_err-step
returns-in_err-step c =
    subst (MatchSource (frame_in c.args.game.now) c.args.classes.now.lists c.args.player (at_end c.args.end)) (sym c.from_residual.ensures)
    (sym c.end_step.ensures ∙ ap (option_map step_of) c.in_err-step.was)

pub bounds-points-step : goal.bounds-points-step
bounds-points-step c =
    let l : c.in_ok-step.step.point < length c.points.result.now =
    omega (arith, (before (goal.at.bounds-points-step c).In_ok-step).inside, length-points c.args.game.now c.points.result.now c.points.ensures) in l

pub slots_between-requires-clause-in_range : goal.slots_between-requires-clause-in_range
slots_between-requires-clause-in_range c = omega (arith, (before (goal.at.slots_between-requires-clause-in_range c).In_ok-step).inside)

pub returns : goal.returns
returns c =
    let before_end = before (goal.at.returns c).In_ok-step in
    let g = c.args.game.now in
    let u = step_of c.in_ok-step.step in
    let b = point_reads g c.points.result.now u.point c.index-points-step.result c.points.ensures before_end.inside c.index-points-step.is in
    let nothing : slots_before (frame_in g) c.args.classes.now.lists c.args.player 0 ≡ 0 = refl in (
      u,
      record {
        made = before_end.made;
        round = b.round;
        first = omega (arith, nothing, c.slots_between.ensures);
        moves = omega (arith, c.len.ensures, b.moves);
        choice = refl;
      },
    )

pub slots_between-requires-clause-parents : goal.slots_between-requires-clause-parents
slots_between-requires-clause-parents c = grind arith
