use Rattle.std.proofs.lemmas.Grind.{common_steps}
use Rattle.std.proofs.Common.{arith}
use Rattle.gs_raw.proofs.judging.raw_verdict.Goals as goal

pub returns : goal.returns
returns c = grind (arith, common_steps)
