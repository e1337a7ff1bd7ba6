use Rattle.std.proofs.Common.{arith}
use Rattle.gs_tree.proofs.ways.are_ones.Goals as goal

pub returns : goal.returns
returns c = grind (arith, c.all.ensures, c.iter.ensures)
