use Rattle.std.proofs.Common.{arith}
use Rattle.gs_play.proofs.dues.soonest.Goals as goal

pub returns-clause-least : goal.returns-clause-least
returns-clause-least c = grind arith
