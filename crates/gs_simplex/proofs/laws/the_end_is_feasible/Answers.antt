use Rattle.gs_simplex.proofs.Ends.{end_is_feasible}
use Rattle.gs_simplex.proofs.laws.the_end_is_feasible.Goals as goal

pub returns : goal.returns
returns c = end_is_feasible
