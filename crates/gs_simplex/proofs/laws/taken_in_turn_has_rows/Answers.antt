use Rattle.gs_simplex.proofs.PairLists.{taken_has_rows_lem}
use Rattle.gs_simplex.proofs.laws.taken_in_turn_has_rows.Goals as goal

pub returns : goal.returns
returns c = taken_has_rows_lem
