use Rattle.std.proofs.Common.{length}
use Rattle.gs_game.proofs.betting.+most_put.Given as goal

abbrev pub decreases-most_put : goal.decreases-most_put
decreases-most_put l = length l.rounds.now
