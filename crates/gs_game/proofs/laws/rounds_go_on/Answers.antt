use Rattle.gs_game.proofs.{SomeWays.{some_ways}, StopLaws.{against_stopped}}
use Rattle.gs_game.proofs.laws.rounds_go_on.Goals as goal

pub returns-clause-alike : goal.returns-clause-alike
returns-clause-alike c = λ g h round lists others some top stops same s k. against_stopped g h round lists others some top stops same s k

pub returns-clause-some : goal.returns-clause-some
returns-clause-some c = λ g round h. some_ways g round h
