use Rattle.std.proofs.Common.{◌≡◌, take}
use Rattle.gs_simplex.specs.Parts.{spread}
use Rattle.gs_simplex.proofs.sparse.Row.dense.Given as goal

abbrev pub invariant-loop-kept : goal.invariant-loop-kept
invariant-loop-kept l = l.numbers.items ≡ spread (take l.kept-index l.self-inside.kept.items)
