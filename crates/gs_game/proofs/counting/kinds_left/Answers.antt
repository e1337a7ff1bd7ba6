use Rattle.std.proofs.Common.{arith}
use Rattle.gs_game.proofs.counting.kinds_left.Goals as goal

pub returns : goal.returns
returns c = grind arith
