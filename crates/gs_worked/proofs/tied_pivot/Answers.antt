use Rattle.gs_worked.proofs.Pivots.{tied_pivot}
use Rattle.gs_worked.proofs.tied_pivot.Goals as goal

pub returns : goal.returns
returns c = tied_pivot
