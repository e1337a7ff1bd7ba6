use Rattle.std.proofs.Common.{arith}
use Rattle.gs_seq.proofs.rows.pair_from.Goals as goal

pub returns-clause-moderate : goal.returns-clause-moderate
returns-clause-moderate c = grind arith
