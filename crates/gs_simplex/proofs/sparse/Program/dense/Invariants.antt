use Rattle.std.proofs.Common.{◌≡◌, take, map, vec_items}
use Rattle.gs_simplex.proofs.sparse.Program.dense.Given as goal

abbrev pub invariant-loop-row : goal.invariant-loop-row
invariant-loop-row l = map vec_items l.numbers.items ≡ take l.row-index l.parts-inside.numbers.items
