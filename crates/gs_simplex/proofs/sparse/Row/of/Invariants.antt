use Rattle.std.proofs.Common.{◌≡◌, take}
use Rattle.gs_simplex.proofs.sparse.Row.of.Given as goal

abbrev pub invariant-loop-number : goal.invariant-loop-number
invariant-loop-number l = l.row ≡ take l.number-index l.numbers
