use Rattle.std.proofs.Common.{ℕ, List, subst}
use Rattle.gs_reply.proofs.{Held.{held, not_held}, Refused.{exits}}
use Rattle.gs_reply.specs.{Replies.{Answers, StopsFor}, declared.refusals.Which.TheVariants.{Only}}
use Rattle.gs_strategy.specs.Views.{stored_view}
use Rattle.gs_raw_commands.specs.Commands.{Judges, SaysJudged}
use Rattle.gs_raw_commands.proofs.commands.judge_answer.Goals as goal

pub returns-in_err-stored : goal.returns-in_err-stored
returns-in_err-stored g c =
    let no_file = not_held Only SaysJudged c.as_slice.result.now _ c.in_err-stored.ensures.refused in
    exits (Judges (g.B.AsSlice.items c.args.bytes)) _ _ c.from_residual.ensures.1
    (subst (λ (b : List ℕ). StopsFor (Judges b) c.in_err-stored.field-0.0) c.as_slice.ensures no_file)

pub returns : goal.returns
returns g c =
    let read = held Only SaysJudged c.as_slice.result.now (stored_view c.in_ok-stored.stored) c.judged.result c.in_ok-stored.ensures.stored c.judged.ensures in
    subst (λ (b : List ℕ). Answers (Judges b) c.judged.result) c.as_slice.ensures read
