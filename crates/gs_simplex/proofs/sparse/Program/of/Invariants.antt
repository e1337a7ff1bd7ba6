use Rattle.std.proofs.Common.{◌≡◌, take, map, vec_items}
use Rattle.gs_simplex.proofs.sparse.Program.of.Given as goal

abbrev pub invariant-loop-row : goal.invariant-loop-row
invariant-loop-row l = l.numbers.items ≡ map vec_items (take l.row-index l.p-inside.numbers.items)
