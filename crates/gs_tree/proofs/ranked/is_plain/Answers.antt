use Rattle.std.proofs.{Common.{arith}, lemmas.Grind.{common_steps}}
use Rattle.gs_tree.proofs.ranked.is_plain.Goals as goal

pub returns-then-hands-eq1 : goal.returns-then-hands-eq1
returns-then-hands-eq1 c = grind (arith, common_steps)

pub returns-else-hands-eq1-clause-not_plain : goal.returns-else-hands-eq1-clause-not_plain
returns-else-hands-eq1-clause-not_plain c = grind arith
