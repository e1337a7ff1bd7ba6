use Rattle.std.proofs.{Common.{arith}, lemmas.Grind.{common_steps}}
use Rattle.gs_split.proofs.rounds.noted.Goals as goal

pub overflow_cast-mixed : goal.overflow_cast-mixed
overflow_cast-mixed c = grind (arith, common_steps)
