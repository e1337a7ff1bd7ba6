use Rattle.std.proofs.Common.{arith}
use Rattle.gs_play.proofs.dues.least.Goals as goal

pub returns-clause-least : goal.returns-clause-least
returns-clause-least c = grind arith

pub loop-place-preserved : goal.loop-place-preserved
loop-place-preserved c = grind arith
