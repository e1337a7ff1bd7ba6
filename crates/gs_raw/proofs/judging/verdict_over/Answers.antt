use Rattle.std.proofs.lemmas.Grind.{common_steps}
use Rattle.std.proofs.Common.{arith}
use Rattle.gs_raw.proofs.judging.verdict_over.Goals as goal

pub verdict-requires : goal.verdict-requires
verdict-requires c = grind (arith, common_steps)

pub returns : goal.returns
returns c = grind arith
