use Rattle.std.proofs.Common.{ℕ, ◌<◌, ◌≤ℤ◌, pos}
use Rattle.gs_simplex.specs.Table.{grid_of}
use Rattle.gs_simplex.proofs.choice.entering.Given as goal

abbrev pub invariant-loop-j : goal.invariant-loop-j
invariant-loop-j l = (k : ℕ) → k < l.j → grid_of l.p l.table l.p.rows k ≤ℤ pos 0
