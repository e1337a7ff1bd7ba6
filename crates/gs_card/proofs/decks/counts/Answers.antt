use Rattle.std.proofs.{Common.{arith}, lemmas.Grind.{common_steps}}
use Rattle.gs_card.proofs.decks.counts.Goals as goal

pub loop-digit-preserved : goal.loop-digit-preserved
loop-digit-preserved c = grind (arith, common_steps)

pub overflow_sub-digit : goal.overflow_sub-digit
overflow_sub-digit c = grind (arith, common_steps)

pub returns-after-loop-digit : goal.returns-after-loop-digit
returns-after-loop-digit c = grind (arith, common_steps)
