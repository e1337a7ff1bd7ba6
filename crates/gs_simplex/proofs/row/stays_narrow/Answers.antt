use Rattle.std.proofs.{Common.{arith}, lemmas.Grind.{common_steps}}
use Rattle.gs_simplex.proofs.row.stays_narrow.Goals as goal

pub returns : goal.returns
returns c = grind (arith, common_steps)
