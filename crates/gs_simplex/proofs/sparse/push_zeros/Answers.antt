use Rattle.std.proofs.Common.{arith}
use Rattle.gs_simplex.proofs.sparse.push_zeros.Goals as goal

pub returns : goal.returns
returns c = grind arith
