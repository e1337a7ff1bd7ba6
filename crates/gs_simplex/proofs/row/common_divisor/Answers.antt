use Rattle.std.proofs.{Common.{arith}, lemmas.Grind.{common_steps}}
use Rattle.gs_simplex.proofs.row.common_divisor.Goals as goal

pub returns-then-number-found-eq0 : goal.returns-then-number-found-eq0
returns-then-number-found-eq0 c = grind (arith, common_steps)
