use Rattle.std.proofs.{Common.{arith}, lemmas.Grind.{common_steps}}
use Rattle.gs_rank.proofs.strengths.card_at.Goals as goal

pub returns-then-place-own : goal.returns-then-place-own
returns-then-place-own c = grind (arith, common_steps)

pub returns-else-place-own : goal.returns-else-place-own
returns-else-place-own c = grind (arith, common_steps)
