use Rattle.gs_simplex.proofs.PairLists.{rows_are_determined_lem}
use Rattle.gs_simplex.proofs.laws.rows_are_determined.Goals as goal

pub returns : goal.returns
returns c = rows_are_determined_lem
