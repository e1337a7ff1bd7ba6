use Rattle.std.proofs.Common.{arith}
use Rattle.std.proofs.lemmas.Grind.{common_steps}
use Rattle.gs_reply.proofs.refusals.LimitDisplay.fmt.Goals as goal

pub returns-in-Sequences-clause-writes : goal.returns-in-Sequences-clause-writes
returns-in-Sequences-clause-writes c = grind (arith, common_steps)
