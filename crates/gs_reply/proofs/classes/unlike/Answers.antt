use Rattle.std.proofs.Common.{arith}
use Rattle.gs_reply.proofs.classes.unlike.Goals as goal

pub returns : goal.returns
returns c = grind arith
