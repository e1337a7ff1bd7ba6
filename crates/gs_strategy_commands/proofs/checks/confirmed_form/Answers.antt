use Rattle.std.proofs.Common.{arith}
use Rattle.gs_strategy_commands.proofs.Told.{large, wrong}
use Rattle.gs_strategy_commands.specs.Troubles.{IsUnconfirmed}
use Rattle.gs_reply.proofs.Refused.{fails}
use Rattle.gs_strategy.specs.Views.{stored_view}
use Rattle.gs_strategy_commands.proofs.checks.confirmed_form.Goals as goal

pub returns-in_err-form-clause-refused : goal.returns-in_err-form-clause-refused
returns-in_err-form-clause-refused c =
    let s = stored_view c.args.stored.now in
    fails (IsUnconfirmed s) _ _ c.from_residual.ensures.1 (large s _ c.in_err-form.ensures.large)

pub returns-in_err-check_numbers-clause-refused : goal.returns-in_err-check_numbers-clause-refused
returns-in_err-check_numbers-clause-refused c =
    let s = stored_view c.args.stored.now in
    fails (IsUnconfirmed s) _ _ c.from_residual-in_err-check_numbers.ensures.1 (wrong s _ c.in_err-check_numbers.ensures.wrong)

pub returns-clause-confirmed : goal.returns-clause-confirmed
returns-clause-confirmed c = grind arith

pub check_numbers-requires : goal.check_numbers-requires
check_numbers-requires c = grind arith

pub returns-clause-form : goal.returns-clause-form
returns-clause-form c = grind arith
