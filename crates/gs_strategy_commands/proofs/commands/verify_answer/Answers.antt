use Rattle.std.proofs.Common.{subst}
use Rattle.gs_reply.proofs.{Held.{held, not_held}, Refused.{exits}}
use Rattle.gs_strategy_commands.specs.{Commands.{OfStrategy}, Verifying.{SaysVerified, Verifies}}
use Rattle.gs_reply.specs.{Replies.{Answers, StopsFor}, declared.refusals.Which.TheVariants.{Only}}
use Rattle.gs_strategy.specs.Views.{stored_view}
use Rattle.gs_strategy_commands.proofs.commands.verify_answer.Goals as goal

pub returns-in_err-stored : goal.returns-in_err-stored
returns-in_err-stored c =
    let r = c.first_line.result in
    exits (Verifies c.args.bytes.now) _ _ c.from_residual.ensures.1
    (subst (λ p. StopsFor (OfStrategy (SaysVerified p.1) p.0) c.in_err-stored.field-0.0) c.first_line.ensures
    (not_held Only (SaysVerified r.1.now) r.0.now _ c.in_err-stored.ensures.refused))

pub returns : goal.returns
returns c =
    let r = c.first_line.result in
    subst (λ p. Answers (OfStrategy (SaysVerified p.1) p.0) c.verified.result) c.first_line.ensures
    (held Only (SaysVerified r.1.now) r.0.now (stored_view c.in_ok-stored.stored) c.verified.result c.in_ok-stored.ensures.stored c.verified.ensures)
