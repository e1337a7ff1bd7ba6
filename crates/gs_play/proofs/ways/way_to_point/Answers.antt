use Rattle.std.proofs.{Common.{◌<◌, None, length, sym, ◌∙◌, arith}, lemmas.List.{get_or_default}}
use Rattle.gs_game.specs.Seen.{step_of}
use Rattle.gs_model.specs.Positions.{at_point}
use Rattle.gs_play.specs.{Plots.{IsMoveTo}, Sides.{side_frame}}
use Rattle.gs_play.proofs.ways.way_to_point.Goals.{In_ok-step}
use Rattle.gs_play.proofs.ways.way_to_point.Goals as goal

-- the move that is noted leads to the point
noted : (c : In_ok-step) → IsMoveTo (side_frame c.args.side.now) (at_point c.args.row.point) (step_of c.in_ok-step.step)
noted c =
    let plot = c.args.side.now.plot.now in
    let plotted = c.args.side.now.plotted in
    let q = c.args.row.point in
    let inside : q < length plot.to_points.items = omega (arith, c.requires.inside, plotted.many_to_points) in
    (plotted.to_points q c.requires.inside).some c.in_ok-step.step
    (get_or_default plot.to_points.items q None c.index.result.now inside ∙ sym c.index.ensures ∙ c.in_ok-step.was)

pub index-requires : goal.index-requires
index-requires c = omega (arith, c.requires.inside, c.args.side.now.plotted.many_to_points, c.args.side.now.plot.now.to_points.ok.0)

pub way_by-requires : goal.way_by-requires
way_by-requires c = (noted (goal.at.way_by-requires c).In_ok-step).inside

pub returns : goal.returns
returns c = c.way_by.ensures (at_point c.args.row.point) (noted (goal.at.returns c).In_ok-step) c.requires.round
