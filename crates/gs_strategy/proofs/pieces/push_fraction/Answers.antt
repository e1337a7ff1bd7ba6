use Rattle.std.proofs.Common.{arith}
use Rattle.gs_strategy.proofs.pieces.push_fraction.Goals as goal

pub returns : goal.returns
returns c = grind arith
