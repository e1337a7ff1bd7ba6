use Rattle.std.proofs.Common.{length}
use Rattle.gs_tree.proofs.reading.+after_group.Given as goal

abbrev pub decreases-after_group : goal.decreases-after_group
decreases-after_group l = length l.cards.now
