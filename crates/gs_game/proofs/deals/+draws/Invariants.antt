use Rattle.std.proofs.Common.{length}
use Rattle.gs_game.proofs.deals.+draws.Given as goal

abbrev pub decreases-draws : goal.decreases-draws
decreases-draws l = length l.sizes.now
