use Rattle.std.proofs.{Common.{arith}, lemmas.Grind.{common_steps}}
use Rattle.gs_split.proofs.proposal.mixed_classes.Goals as goal

pub loop-class-preserved : goal.loop-class-preserved
loop-class-preserved c = grind (arith, common_steps)

pub returns : goal.returns
returns c = grind (arith, common_steps)
