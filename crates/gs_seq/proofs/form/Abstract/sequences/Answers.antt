use Rattle.std.proofs.Common.{arith}
use Rattle.gs_seq.proofs.form.Abstract.sequences.Goals as goal

pub returns-else-player-eq1 : goal.returns-else-player-eq1
returns-else-player-eq1 c = grind arith

pub returns-then-player-eq1 : goal.returns-then-player-eq1
returns-then-player-eq1 c = grind arith
