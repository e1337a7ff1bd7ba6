use Rattle.std.proofs.Common.{arith}
use Rattle.gs_seq.proofs.pairs.pair_of.Goals as goal

pub overflow_add-result : goal.overflow_add-result
overflow_add-result c = grind arith

pub overflow_cast-weight : goal.overflow_cast-weight
overflow_cast-weight c = grind arith
