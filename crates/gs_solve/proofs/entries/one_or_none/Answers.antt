use Rattle.std.proofs.lemmas.Grind.{common_steps}
use Rattle.std.proofs.Common.{arith}
use Rattle.gs_solve.proofs.entries.one_or_none.Goals as goal

pub returns : goal.returns
returns c = grind (arith, common_steps)
