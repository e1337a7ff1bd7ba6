use Rattle.std.proofs.Common.{arith}
use Rattle.gs_seq.proofs.single.is_single.Goals as goal

pub loop-signal-preserved : goal.loop-signal-preserved
loop-signal-preserved c = grind arith
