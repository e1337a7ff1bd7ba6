use Rattle.std.proofs.Common.{arith}
use Rattle.gs_simplex.proofs.path.pivot.Goals as goal

pub list-requires-clause-nonzero : goal.list-requires-clause-nonzero
list-requires-clause-nonzero c = c.requires.rises c.pair_at-row.result.0 c.pair_at-row.result.1 c.pair_at-row.ensures.pair

pub list-requires-clause-table : goal.list-requires-clause-table
list-requires-clause-table c = grind arith
