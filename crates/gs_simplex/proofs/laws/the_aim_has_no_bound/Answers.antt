use Rattle.gs_simplex.proofs.Ends.{aim_has_no_bound_lem}
use Rattle.gs_simplex.proofs.laws.the_aim_has_no_bound.Goals as goal

pub returns : goal.returns
returns c = aim_has_no_bound_lem
