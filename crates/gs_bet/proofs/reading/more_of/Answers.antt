use Rattle.std.proofs.{Common.{arith}, lemmas.Grind.{common_steps}}
use Rattle.gs_bet.specs.Reading.{more_at}
use Rattle.gs_bet.proofs.reading.more_of.Goals as goal

pub returns-in-44 : goal.returns-in-44
unfolding more_at
returns-in-44 c = grind (arith, common_steps)

pub returns-in-93 : goal.returns-in-93
unfolding more_at
returns-in-93 c = grind (arith, common_steps)
