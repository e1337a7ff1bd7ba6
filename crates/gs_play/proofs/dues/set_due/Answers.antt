use Rattle.std.proofs.Common.{arith}
use Rattle.std.proofs.lemmas.Grind.{common_steps}
use Rattle.gs_play.proofs.dues.set_due.Goals as goal

pub returns-then-turn-index-clause-dues : goal.returns-then-turn-index-clause-dues
returns-then-turn-index-clause-dues c = grind (arith, common_steps)
