use Rattle.std.proofs.Common.{arith}
use Rattle.gs_raw.proofs.hands.scale.Goals as goal

pub scaled-requires : goal.scaled-requires
scaled-requires c = grind arith

pub returns : goal.returns
returns c = grind arith
