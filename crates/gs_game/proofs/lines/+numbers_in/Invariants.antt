use Rattle.std.proofs.Common.{length}
use Rattle.gs_game.proofs.lines.+numbers_in.Given as goal

abbrev pub decreases-numbers_in : goal.decreases-numbers_in
decreases-numbers_in l = length l.rounds.now
