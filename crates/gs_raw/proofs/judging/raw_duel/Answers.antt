use Rattle.std.proofs.Common.{arith}
use Rattle.gs_raw.proofs.judging.raw_duel.Goals as goal

pub returns-clause-hands : goal.returns-clause-hands
returns-clause-hands c = grind arith
