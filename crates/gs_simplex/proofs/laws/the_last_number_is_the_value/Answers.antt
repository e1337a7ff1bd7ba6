use Rattle.gs_simplex.proofs.PairLists.{last_number_is_value_lem}
use Rattle.gs_simplex.proofs.laws.the_last_number_is_the_value.Goals as goal

pub returns : goal.returns
returns c = last_number_is_value_lem
