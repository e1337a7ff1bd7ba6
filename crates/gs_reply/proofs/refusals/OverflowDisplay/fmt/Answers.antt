use Rattle.std.proofs.Common.{arith}
use Rattle.std.proofs.lemmas.Grind.{common_steps}
use Rattle.gs_reply.proofs.refusals.OverflowDisplay.fmt.Goals as goal

pub returns-in-AtStep-clause-writes : goal.returns-in-AtStep-clause-writes
returns-in-AtStep-clause-writes c = grind (arith, common_steps)

pub returns-in-AtTotal-clause-writes : goal.returns-in-AtTotal-clause-writes
returns-in-AtTotal-clause-writes c = grind (arith, common_steps)
