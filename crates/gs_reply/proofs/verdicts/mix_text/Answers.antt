use Rattle.std.proofs.Common.{arith}
use Rattle.std.proofs.lemmas.Grind.{common_steps}
use Rattle.gs_reply.proofs.verdicts.mix_text.Goals as goal

pub returns : goal.returns
returns c = grind (arith, common_steps)

pub loop-letter-preserved : goal.loop-letter-preserved
loop-letter-preserved c = grind (arith, common_steps)
