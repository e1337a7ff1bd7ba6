use Rattle.gs_simplex.proofs.Ends.{prices_have_multipliers_lem}
use Rattle.gs_simplex.proofs.laws.prices_have_multipliers.Goals as goal

pub returns : goal.returns
returns c = prices_have_multipliers_lem
