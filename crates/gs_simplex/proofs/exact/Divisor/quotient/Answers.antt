use Rattle.std.proofs.{Common.{arith}, lemmas.Grind.{common_steps}}
use Rattle.gs_simplex.proofs.exact.Divisor.quotient.Goals as goal

pub returns : goal.returns
returns c = grind (arith, common_steps)
