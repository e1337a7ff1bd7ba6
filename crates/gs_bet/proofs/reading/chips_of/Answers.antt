use Rattle.std.proofs.{Common.{arith}, lemmas.Grind.{common_steps}}
use Rattle.gs_bet.specs.Reading.{chips_at}
use Rattle.gs_bet.proofs.reading.chips_of.Goals as goal

pub loop-rest-preserved : goal.loop-rest-preserved
unfolding chips_at
loop-rest-preserved c = grind (arith, common_steps)

pub returns-clause-value : goal.returns-clause-value
unfolding chips_at
returns-clause-value c = grind (arith, common_steps)

pub bounds-rest-0-then-rest-lt58 : goal.bounds-rest-0-then-rest-lt58
bounds-rest-0-then-rest-lt58 c = omega arith

pub loop-rest-smaller : goal.loop-rest-smaller
loop-rest-smaller c = omega arith
