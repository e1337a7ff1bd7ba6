use Rattle.std.proofs.Common.{◌≡◌, ◌<◌, length, Some, refl, sym, ap, ◌∙◌, subst, arith}
use Rattle.std.specs.Prelude.{option_map}
use Rattle.gs_game.specs.Seen.{step_of}
use Rattle.gs_model.specs.{Frame.{end_count, last_step}, Positions.{at_end}}
use Rattle.gs_seq.specs.{Abstracts.{abstract_frame, game_in}, Games.{frame_in}}
use Rattle.gs_seq.proofs.{Forms.{form_walked}, Points.{few}}
use Rattle.gs_play.proofs.{PlotLaws.{has_none, last_is, widened_here, widened_spans, widened_wider}, plot.widen.Goals.{In-Some}}
use Rattle.gs_play.proofs.plot.widen.Goals as goal

pub end_step-requires : goal.end_step-requires
end_step-requires c = subst (λ g. c.args.end < end_count (frame_in g)) (sym c.game.ensures) c.requires.end

-- the player's last step
made : (c : In-Some) → last_step (abstract_frame c.args.form.now) c.args.player (at_end c.args.end) ≡ Some (step_of c.in-Some.step)
made c = last_is c.args.form.now c.args.player c.args.end c.game.result.now c.end_step.result c.game.ensures c.end_step.ensures
    ∙ ap (option_map step_of) c.in-Some.is

inside : (c : In-Some) → c.in-Some.step.point < length c.args.spans.now
inside c = omega (
  arith,
  (form_walked c.args.form.now c.args.player c.requires.some c.requires.two).earlier_end c.args.end (step_of c.in-Some.step) c.requires.end (made c),
  c.requires.spans.long,
)

pub bounds-spans-step : goal.bounds-spans-step
bounds-spans-step c = omega (arith, inside (goal.at.bounds-spans-step c).In-Some)

pub overflow_add-end : goal.overflow_add-end
overflow_add-end c = record { fits = omega (arith, c.requires.end, (few (game_in c.args.form.now)).ends) }

pub returns-in_default-clause-here : goal.returns-in_default-clause-here
returns-in_default-clause-here c = has_none (abstract_frame c.args.form.now) c.args.player c.args.end c.args.spans.now
    (last_is c.args.form.now c.args.player c.args.end c.game.result.now c.end_step.result c.game.ensures c.end_step.ensures
    ∙ ap (option_map step_of) c.in_default.is)

pub returns-in-Some : goal.returns-in-Some
returns-in-Some c = record {
  spans = widened_spans c.args.spans.now c.in-Some.step.point _ c.min-span.result c.max-span.result c.args.end
      (inside (goal.at.returns-in-Some c).In-Some) c.min-span.ensures c.max-span.ensures (abstract_frame c.args.form.now)
      c.requires.end c.requires.spans;
  here = let at = (goal.at.returns-in-Some c).In-Some in
      widened_here c.args.spans.now c.in-Some.step.point _ c.min-span.result c.max-span.result c.args.end (inside at) c.min-span.ensures c.max-span.ensures
      (abstract_frame c.args.form.now) c.args.player c.in-Some.step (made at) refl;
  wider = widened_wider c.args.spans.now c.in-Some.step.point _ c.min-span.result c.max-span.result c.args.end
      (inside (goal.at.returns-in-Some c).In-Some) c.min-span.ensures c.max-span.ensures;
}

pub returns-in_default-clause-spans : goal.returns-in_default-clause-spans
returns-in_default-clause-spans c = grind arith
