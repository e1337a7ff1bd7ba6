use Rattle.std.proofs.{Common.{arith}, lemmas.Grind.{common_steps}}
use Rattle.gs_rank.proofs.strengths.pair_strength.Goals as goal

pub loop-card-preserved : goal.loop-card-preserved
loop-card-preserved c = grind (arith, common_steps)

pub returns-then-rank-clause-value : goal.returns-then-rank-clause-value
returns-then-rank-clause-value c = grind (arith, common_steps)

pub returns-clause-value : goal.returns-clause-value
returns-clause-value c = grind (arith, common_steps)
