use Rattle.std.proofs.Common.{arith}
use Rattle.gs_seq.proofs.paying.are_same.Goals as goal

pub loop-place-preserved : goal.loop-place-preserved
loop-place-preserved c = grind arith
