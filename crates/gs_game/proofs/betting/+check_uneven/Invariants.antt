use Rattle.std.proofs.Common.{length}
use Rattle.gs_game.proofs.betting.+check_uneven.Given as goal

abbrev pub decreases-check_uneven : goal.decreases-check_uneven
decreases-check_uneven l = length l.rounds.now
