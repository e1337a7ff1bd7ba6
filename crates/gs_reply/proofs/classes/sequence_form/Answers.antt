use Rattle.std.proofs.Common.{arith}
use Rattle.gs_file.specs.Views.{valid_view}
use Rattle.gs_reply.specs.Troubles.{SaysLarge}
use Rattle.gs_reply.proofs.Refused.{fails, too_large}
use Rattle.gs_reply.proofs.classes.sequence_form.Goals as goal

pub returns-in_err-of-clause-large : goal.returns-in_err-of-clause-large
returns-in_err-of-clause-large c =
    let l = c.args.lossless.now in
    let g = valid_view l.signals.now.game.now in
    fails (SaysLarge g l.classes.now.lists) _ _ c.from_residual.ensures.1 (too_large g l.classes.now.lists c.in_err-of.field-0.0 c.in_err-of.ensures.refused)

pub returns-clause-held : goal.returns-clause-held
returns-clause-held c = grind arith

pub returns-clause-small : goal.returns-clause-small
returns-clause-small c = c.in_ok-of.ensures.small
