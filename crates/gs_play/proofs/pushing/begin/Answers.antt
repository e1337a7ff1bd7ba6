use Rattle.std.proofs.lemmas.Grind.{common_steps}
use Rattle.std.proofs.Common.{arith}
use Rattle.gs_play.proofs.pushing.begin.Goals as goal

pub begin_ends-requires : goal.begin_ends-requires
begin_ends-requires c = grind (arith, common_steps)

pub returns : goal.returns
returns c = grind (arith, common_steps)
