use Rattle.std.proofs.{Common.{arith}, lemmas.Grind.{common_steps}}
use Rattle.gs_tree.proofs.kept.push_each.Goals as goal

pub loop-card-preserved : goal.loop-card-preserved
loop-card-preserved c = grind (arith, common_steps)

pub returns : goal.returns
returns c = grind (arith, common_steps)
