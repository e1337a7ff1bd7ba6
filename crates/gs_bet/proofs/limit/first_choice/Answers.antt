use Rattle.std.proofs.Common.{arith}
use Rattle.gs_bet.proofs.limit.first_choice.Goals as goal

pub returns : goal.returns
returns c = grind arith
