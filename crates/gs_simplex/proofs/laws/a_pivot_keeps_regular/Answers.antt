use Rattle.gs_simplex.proofs.PairLists.{pivot_keeps_regular_lem}
use Rattle.gs_simplex.proofs.laws.a_pivot_keeps_regular.Goals as goal

pub returns : goal.returns
returns c = pivot_keeps_regular_lem
