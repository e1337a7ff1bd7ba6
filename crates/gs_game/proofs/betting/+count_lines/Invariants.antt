use Rattle.std.proofs.Common.{length}
use Rattle.gs_game.proofs.betting.+count_lines.Given as goal

abbrev pub decreases-count_lines : goal.decreases-count_lines
decreases-count_lines l = length l.rounds.now
