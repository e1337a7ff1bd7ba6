use Rattle.std.proofs.lemmas.Grind.{common_steps}
use Rattle.std.proofs.Common.{arith}
use Rattle.gs_play.proofs.dues.past_due.Goals as goal

pub returns-then-turns-place : goal.returns-then-turns-place
returns-then-turns-place c = grind (arith, common_steps)

pub returns-clause-behind : goal.returns-clause-behind
returns-clause-behind c = grind arith
