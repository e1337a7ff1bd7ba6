use Rattle.std.proofs.Common.{arith}
use Rattle.gs_strategy_commands.proofs.Told.{answered, refused, unlike}
use Rattle.gs_strategy_commands.specs.{Commands.{OfConfirmed}, Wanted.{says_wanted}}
use Rattle.gs_reply.proofs.Refused.{exits}
use Rattle.gs_strategy.specs.Views.{stored_view}
use Rattle.gs_strategy_commands.proofs.answers.over.Goals as goal

pub returns-in_err-lossless : goal.returns-in_err-lossless
returns-in_err-lossless c =
    let s = stored_view c.args.stored.now in
    let says = says_wanted c.args.wanted.now in
    exits (OfConfirmed says s) _ _ c.from_residual.ensures.1 (refused says s _ (unlike s _ c.in_err-lossless.ensures.unlike))

pub returns-in_err-form : goal.returns-in_err-form
returns-in_err-form c =
    let s = stored_view c.args.stored.now in
    let says = says_wanted c.args.wanted.now in
    exits (OfConfirmed says s) _ _ c.from_residual-in_err-form.ensures.1 (refused says s _ c.in_err-form.ensures.refused)

pub returns : goal.returns
returns c = answered (says_wanted c.args.wanted.now) (stored_view c.args.stored.now) c.told.result c.in_ok-form.ensures.confirmed c.told.ensures

pub confirmed_form-requires-clause-lossless : goal.confirmed_form-requires-clause-lossless
confirmed_form-requires-clause-lossless c = grind arith

pub told-requires : goal.told-requires
told-requires c = grind arith

pub confirmed_form-requires-clause-held : goal.confirmed_form-requires-clause-held
confirmed_form-requires-clause-held c = grind arith

pub lossless_of-requires : goal.lossless_of-requires
lossless_of-requires c = grind arith
