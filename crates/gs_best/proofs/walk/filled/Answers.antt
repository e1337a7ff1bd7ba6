use Rattle.std.proofs.lemmas.Grind.{common_steps}
use Rattle.std.proofs.Common.{arith}
use Rattle.gs_best.proofs.walk.filled.Goals as goal

pub backward-requires : goal.backward-requires
backward-requires c = grind (arith, common_steps)
