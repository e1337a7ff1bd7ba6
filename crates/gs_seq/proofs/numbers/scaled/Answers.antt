use Rattle.std.proofs.Common.{arith}
use Rattle.gs_seq.proofs.numbers.scaled.Goals as goal

pub returns : goal.returns
returns c = grind arith

pub overflow_mul-result : goal.overflow_mul-result
overflow_mul-result c = grind arith
