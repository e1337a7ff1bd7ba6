use Rattle.std.proofs.Common.{arith}
use Rattle.gs_tree.proofs.boards.numbers_of.Goals as goal

pub returns : goal.returns
returns c = grind arith
