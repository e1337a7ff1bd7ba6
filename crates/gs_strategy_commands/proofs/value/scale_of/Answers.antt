use Rattle.std.proofs.Common.{arith}
use Rattle.gs_strategy_commands.proofs.value.scale_of.Goals as goal

pub returns-clause-few : goal.returns-clause-few
returns-clause-few c = grind arith
