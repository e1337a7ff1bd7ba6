use Rattle.std.proofs.Common.{arith}
use Rattle.gs_card.proofs.groups.Group.of.Goals as goal

pub invariant_of-result : goal.invariant_of-result
invariant_of-result c = grind arith
