use Rattle.std.proofs.lemmas.Grind.{common_steps}
use Rattle.std.proofs.Common.{arith}
use Rattle.gs_seq.proofs.weighing.stake_of.Goals as goal

pub returns-then-player-folder : goal.returns-then-player-folder
returns-then-player-folder c = grind (arith, common_steps)

pub returns-else-player-folder : goal.returns-else-player-folder
returns-else-player-folder c = grind (arith, common_steps)

pub overflow_sub-result : goal.overflow_sub-result
overflow_sub-result c = grind arith
