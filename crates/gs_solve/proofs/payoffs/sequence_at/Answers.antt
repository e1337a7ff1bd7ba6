use Rattle.std.proofs.Common.{◌≡◌, ◌<◌, sym, ap, subst, ◌∙◌}
use Rattle.std.specs.Prelude.{option_map}
use Rattle.gs_game.specs.Seen.{step_of}
use Rattle.gs_model.specs.{Classes.{IsClass, first_member}, Frame.{end_count, last_step}, Positions.{at_end}}
use Rattle.gs_seq.specs.{Abstracts.{abstract_frame, lists_of}, Games.{frame_in}}
use Rattle.gs_solve.specs.{Layout.{StepFits}, Sequences.{sequence_by}}
use Rattle.gs_solve.proofs.{EndSteps.{end_fits}, payoffs.sequence_at.Goals.{After-end_step-step}}
use Rattle.gs_solve.proofs.payoffs.sequence_at.Goals as goal

-- the step is the last one of the form's game
step_is : (c : After-end_step-step) → last_step (abstract_frame c.args.form.now) c.args.player (at_end c.args.end) ≡ option_map step_of c.end_step-step.result
step_is c = sym (subst (λ g. option_map step_of c.end_step-step.result ≡ last_step (frame_in g) c.args.player (at_end c.args.end)) c.game.ensures
    c.end_step-step.ensures)

pub end_step-step-requires : goal.end_step-step-requires
end_step-step-requires c = subst (λ g. c.args.end < end_count (frame_in g)) (sym c.game.ensures) c.requires.end

pub sequence_by-requires-clause-class : goal.sequence_by-requires-clause-class
sequence_by-requires-clause-class c = subst (λ r. IsClass (lists_of c.args.form.now) r c.args.class) (sym c.end_round.ensures.value) c.requires.class

pub sequence_by-requires-clause-step : goal.sequence_by-requires-clause-step
sequence_by-requires-clause-step c =
    subst (StepFits (abstract_frame c.args.form.now) c.end_round.result) (step_is (goal.at.sequence_by-requires-clause-step c).After-end_step-step)
    (end_fits c.args.form.now c.args.player c.args.end c.end_round.result c.requires.some c.requires.two c.requires.end c.end_round.ensures.value)

pub returns : goal.returns
returns c =
    let f = abstract_frame c.args.form.now in
    let ls = lists_of c.args.form.now in
    c.sequence_by.ensures ∙ ap (λ o. sequence_by f ls o c.end_round.result (first_member ls c.end_round.result c.args.class))
    (sym (step_is (goal.at.returns c).After-end_step-step))
    ∙ ap (λ r. sequence_by f ls (last_step f c.args.player (at_end c.args.end)) r (first_member ls r c.args.class)) c.end_round.ensures.value
