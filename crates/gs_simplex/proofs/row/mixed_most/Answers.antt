use Rattle.std.proofs.Common.{arith}
use Rattle.gs_simplex.proofs.row.mixed_most.Goals as goal

pub overflow_mul-result-2 : goal.overflow_mul-result-2
overflow_mul-result-2 c = grind arith
