use Rattle.std.proofs.Common.{arith}
use Rattle.gs_card.proofs.counting.times.Goals as goal

pub returns-clause-bound : goal.returns-clause-bound
returns-clause-bound c = grind arith

pub returns-clause-value : goal.returns-clause-value
returns-clause-value c = grind arith
