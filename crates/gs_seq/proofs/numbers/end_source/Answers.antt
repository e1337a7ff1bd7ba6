use Rattle.std.proofs.Common.{ap, sym, ◌∙◌, subst}
use Rattle.std.specs.Prelude.{option_map}
use Rattle.gs_game.specs.Seen.{step_of}
use Rattle.gs_model.specs.Positions.{at_end}
use Rattle.gs_seq.specs.{Games.{frame_in}, Slots.{slots_before}, Sources.{MatchSource}}
use Rattle.gs_seq.proofs.{Points.{IsStepBefore, step_before, walked}, numbers.end_source.Goals.{In_ok-step}}
use Rattle.gs_seq.proofs.numbers.end_source.Goals as goal

-- the step, which is made at a point of the game
before : (c : In_ok-step) → IsStepBefore c.args.game.now c.args.player c.args.end c.in_ok-step.step
before c = step_before c.args.game.now c.args.player c.args.end _ c.in_ok-step.step c.requires.some c.requires.two c.requires.end c.end_step.ensures
    c.in_ok-step.was

pub returns-in_err-step : goal.returns-in_err-step
returns-in_err-step c = λ lists a.
    subst (MatchSource (frame_in c.args.game.now) lists c.args.player (at_end c.args.end)) (sym c.from_residual.ensures)
    (sym c.end_step.ensures ∙ ap (option_map step_of) c.in_err-step.was)

pub source_from-requires-clause-point : goal.source_from-requires-clause-point
source_from-requires-clause-point c = (before (goal.at.source_from-requires-clause-point c).In_ok-step).inside

pub returns : goal.returns
returns c =
    let z = c.args.end in
    let u = step_of c.in_ok-step.step in
    let b = before (goal.at.returns c).In_ok-step in
    let w = walked c.args.game.now c.args.player c.requires.some c.requires.two in
    let e = c.source_from.ensures in
    λ lists a. (
      u,
      record {
        made = b.made;
        round = e.round;
        first = e.first ∙ a.first u.point b.inside ∙ ap (λ p. slots_before (frame_in c.args.game.now) lists p u.point)
            (w.chosen_end z u c.requires.end b.made).0;
        moves = e.moves;
        choice = e.choice;
      },
    )
