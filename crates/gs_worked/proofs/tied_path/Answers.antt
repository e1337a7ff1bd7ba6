use Rattle.gs_worked.proofs.Pivots.{tied_path}
use Rattle.gs_worked.proofs.tied_path.Goals as goal

pub returns : goal.returns
returns c = tied_path
