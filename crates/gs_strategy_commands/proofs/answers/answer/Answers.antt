use Rattle.std.proofs.Common.{ℕ, List, subst}
use Rattle.gs_reply.proofs.{Held.{held, not_held}, Refused.{exits}}
use Rattle.gs_reply.specs.{Replies.{Answers, StopsFor}, declared.refusals.Which.TheVariants.{Only}}
use Rattle.gs_strategy.specs.Views.{stored_view}
use Rattle.gs_strategy_commands.specs.{Commands.{OfConfirmed, OfStrategy}, Wanted.{says_wanted}}
use Rattle.gs_strategy_commands.proofs.answers.answer.Goals as goal

pub returns-in_err-stored : goal.returns-in_err-stored
returns-in_err-stored g c =
    let says = OfConfirmed (says_wanted c.args.wanted.now) in
    let no_file = not_held Only says c.as_slice.result.now _ c.in_err-stored.ensures.refused in
    exits (OfStrategy says (g.B.AsSlice.items c.args.bytes)) _ _ c.from_residual.ensures.1
    (subst (λ (b : List ℕ). StopsFor (OfStrategy says b) c.in_err-stored.field-0.0) c.as_slice.ensures no_file)

pub returns : goal.returns
returns g c =
    let says = OfConfirmed (says_wanted c.args.wanted.now) in
    let stored = c.in_ok-stored in
    let read = held Only says c.as_slice.result.now (stored_view stored.stored) c.confirmed.result stored.ensures.stored c.confirmed.ensures in
    subst (λ (b : List ℕ). Answers (OfStrategy says b) c.confirmed.result) c.as_slice.ensures read
