use Rattle.std.proofs.Common.{take, arith}
use Rattle.gs_words.proofs.Added.{added, all_of, next}
use Rattle.gs_words.proofs.command.with_commands.Goals as goal

pub loop-name-preserved : goal.loop-name-preserved
loop-name-preserved c =
    let names = c.args.names.now in
    let i = c.loop-name.name-index in
    let old = c.loop-name.command in
    let more = added (take i names) _ old c.in_ok-command_for.field-0 c.in_ok-command.command c.loop-name.invariant c.in_ok-command_for.ensures
    c.in_ok-command.ensures in
    next names i _ c.in_ok-command.command c.loop-name-test.true more

pub returns : goal.returns
returns c =
    all_of c.args.names.now c.loop-name.name-index c.loop-name.command (omega (arith, c.loop-name-test.false, c.loop-name.auto.name-index-end))
    c.loop-name.invariant
