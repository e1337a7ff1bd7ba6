use Rattle.gs_simplex.proofs.PairLists.{taken_is_regular_lem}
use Rattle.gs_simplex.proofs.laws.taken_in_turn_is_regular.Goals as goal

pub returns : goal.returns
returns c = taken_is_regular_lem
