use Rattle.std.proofs.{Common.{◌<◌, None, length, sym, ◌∙◌, arith}, lemmas.List.{get_or_default}}
use Rattle.gs_game.specs.Seen.{step_of}
use Rattle.gs_model.specs.Positions.{at_end}
use Rattle.gs_play.specs.{Plots.{IsMoveTo}, Sides.{side_frame}}
use Rattle.gs_play.proofs.ways.way_to_end.Goals.{In_ok-step}
use Rattle.gs_play.proofs.ways.way_to_end.Goals as goal

-- the move that is noted leads to the end
noted : (c : In_ok-step) → IsMoveTo (side_frame c.args.side.now) (at_end c.args.end) (step_of c.in_ok-step.step)
noted c =
    let plot = c.args.side.now.plot.now in
    let plotted = c.args.side.now.plotted in
    let inside : c.args.end < length plot.to_ends.items = omega (arith, c.requires, plotted.many_to_ends) in
    (plotted.to_ends c.args.end c.requires).some c.in_ok-step.step
    (get_or_default plot.to_ends.items c.args.end None c.index.result.now inside ∙ sym c.index.ensures ∙ c.in_ok-step.was)

pub way_by-requires : goal.way_by-requires
way_by-requires c = (noted (goal.at.way_by-requires c).In_ok-step).inside

pub returns : goal.returns
returns c = c.way_by.ensures (at_end c.args.end) (noted (goal.at.returns c).In_ok-step) c.end_round.ensures.value
