use Rattle.gs_run.proofs.Confirming.{evaluated}
use Rattle.gs_run.proofs.laws.confirmed_are_evaluated.Goals as goal

pub returns : goal.returns
returns c = evaluated
