use Rattle.std.proofs.{Common.{arith}, lemmas.Grind.{common_steps}}
use Rattle.gs_split.proofs.splitting.class_total.Goals as goal

pub loop-before-preserved : goal.loop-before-preserved
loop-before-preserved c = grind (arith, common_steps)
