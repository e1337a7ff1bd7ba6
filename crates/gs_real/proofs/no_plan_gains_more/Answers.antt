use Rattle.gs_real.proofs.Told.{none_gains_more}
use Rattle.gs_real.proofs.no_plan_gains_more.Goals as goal

pub returns : goal.returns
returns g c = λ G. none_gains_more G
