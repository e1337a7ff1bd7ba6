use Rattle.std.proofs.Common.{arith}
use Rattle.gs_reply.proofs.Refused.{exits}
use Rattle.gs_strategy.specs.Views.{stored_view}
use Rattle.gs_strategy_commands.specs.Verifying.{SaysChecked}
use Rattle.gs_strategy_commands.proofs.Moved.{large_said, unlike_said}
use Rattle.gs_strategy_commands.proofs.verifying.over.Goals as goal

pub returns-in_err-lossless : goal.returns-in_err-lossless
returns-in_err-lossless c =
    let s = stored_view c.args.stored.now in
    let k = c.args.c.now in
    exits (SaysChecked s k) _ _ c.from_residual.ensures.1 (unlike_said s k _ c.in_err-lossless.ensures.unlike)

pub returns-in_err-form : goal.returns-in_err-form
returns-in_err-form c =
    let s = stored_view c.args.stored.now in
    let k = c.args.c.now in
    exits (SaysChecked s k) _ _ c.from_residual-in_err-form.ensures.1 (large_said s k _ c.in_err-form.ensures.large)

pub sound-requires-clause-form : goal.sound-requires-clause-form
sound-requires-clause-form c = grind arith

pub form_of-requires-clause-lossless : goal.form_of-requires-clause-lossless
form_of-requires-clause-lossless c = grind arith

pub form_of-requires-clause-held : goal.form_of-requires-clause-held
form_of-requires-clause-held c = grind arith

pub lossless_of-requires : goal.lossless_of-requires
lossless_of-requires c = grind arith

pub sound-requires-clause-modest : goal.sound-requires-clause-modest
sound-requires-clause-modest c = c.requires.modest
