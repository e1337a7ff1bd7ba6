use Rattle.std.proofs.{Common.{arith}, lemmas.Grind.{common_steps}}
use Rattle.gs_play.proofs.pushing.stake_of.Goals as goal

pub returns-then-loser-folder : goal.returns-then-loser-folder
returns-then-loser-folder c = grind (arith, common_steps)

pub returns-else-loser-folder : goal.returns-else-loser-folder
returns-else-loser-folder c = grind (arith, common_steps)

pub returns-in-Show : goal.returns-in-Show
returns-in-Show c = grind (arith, common_steps)

pub overflow_sub-result : goal.overflow_sub-result
overflow_sub-result c = grind arith

pub overflow_sub-gain : goal.overflow_sub-gain
overflow_sub-gain c = grind arith
