use Rattle.std.proofs.{Common.{arith}, lemmas.Grind.{common_steps}}
use Rattle.gs_rank.proofs.strengths.strength.Goals as goal

pub returns-in-Three-clause-value : goal.returns-in-Three-clause-value
returns-in-Three-clause-value c = grind (arith, common_steps)

pub three_strength-requires-in-Three-2 : goal.three_strength-requires-in-Three-2
three_strength-requires-in-Three-2 c = grind (arith, common_steps)

pub returns-in-Pair-clause-value : goal.returns-in-Pair-clause-value
returns-in-Pair-clause-value c = grind (arith, common_steps)
