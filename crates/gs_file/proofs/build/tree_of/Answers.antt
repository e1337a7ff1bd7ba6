use Rattle.std.proofs.Common.{arith}
use Rattle.gs_file.proofs.build.tree_of.Goals as goal

pub returns-in_ok-tree-in-Limit : goal.returns-in_ok-tree-in-Limit
returns-in_ok-tree-in-Limit c = grind arith
