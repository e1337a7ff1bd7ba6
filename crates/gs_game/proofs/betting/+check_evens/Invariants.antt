use Rattle.std.proofs.Common.{length}
use Rattle.gs_game.proofs.betting.+check_evens.Given as goal

abbrev pub decreases-check_evens : goal.decreases-check_evens
decreases-check_evens l = length l.rounds.now
