use Rattle.std.proofs.{Common.{arith}, lemmas.Grind.{common_steps}}
use Rattle.gs_bet.specs.Reading.{player_digit}
use Rattle.gs_bet.proofs.reading.player_of.Goals as goal

pub returns-in-50-clause-read : goal.returns-in-50-clause-read
unfolding player_digit
returns-in-50-clause-read c = grind (arith, common_steps)

pub returns-in-49-clause-read : goal.returns-in-49-clause-read
unfolding player_digit
returns-in-49-clause-read c = grind (arith, common_steps)

pub returns-in-50-clause-room : goal.returns-in-50-clause-room
returns-in-50-clause-room c = grind arith

pub returns-in-49-clause-room : goal.returns-in-49-clause-room
returns-in-49-clause-room c = grind arith
