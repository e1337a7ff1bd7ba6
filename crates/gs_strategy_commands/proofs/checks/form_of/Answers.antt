use Rattle.std.proofs.Common.{arith}
use Rattle.std.proofs.lemmas.Result.{IfErr-weaker}
use Rattle.gs_strategy_commands.proofs.Told.{large_told}
use Rattle.gs_strategy_commands.proofs.checks.form_of.Goals as goal

pub returns-clause-large : goal.returns-clause-large
returns-clause-large c =
    IfErr-weaker c.sequence_form.result _ _ (λ e. large_told c.args.stored.now c.args.lossless.now e c.requires.held c.requires.lossless)
    c.sequence_form.ensures.large

pub returns-clause-form : goal.returns-clause-form
returns-clause-form c = grind arith
