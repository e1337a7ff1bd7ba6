use Rattle.std.proofs.{Common.{arith}, lemmas.Grind.{common_steps}}
use Rattle.gs_play.proofs.tally.pick.Goals as goal

pub returns-else-index-best-clause-picked : goal.returns-else-index-best-clause-picked
returns-else-index-best-clause-picked c = grind (arith, common_steps)

pub returns-then-index-best-clause-picked : goal.returns-then-index-best-clause-picked
returns-then-index-best-clause-picked c = grind (arith, common_steps)
