use Rattle.std.proofs.Common.{◌≡◌, ◌++◌, replicate, pos}
use Rattle.gs_simplex.proofs.sparse.push_zeros.Given as goal

abbrev pub invariant-loop : goal.invariant-loop
invariant-loop l = l.numbers.items ≡ l.initial.numbers.items ++ replicate l.counter (pos 0)
