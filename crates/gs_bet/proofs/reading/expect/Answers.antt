use Rattle.std.proofs.{Common.{arith}, lemmas.Grind.{common_steps}}
use Rattle.gs_bet.specs.Reading.{expect_at}
use Rattle.gs_bet.proofs.reading.expect.Goals as goal

pub returns-in-len1-up : goal.returns-in-len1-up
unfolding expect_at
returns-in-len1-up c = grind (arith, common_steps)
