use Rattle.std.proofs.Common.{arith}
use Rattle.gs_simplex.proofs.choice.better.Goals as goal

pub returns-then-is_before : goal.returns-then-is_before
returns-then-is_before c = grind arith
