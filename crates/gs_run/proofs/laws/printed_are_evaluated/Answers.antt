use Rattle.gs_run.proofs.Confirming.{printed_evaluated}
use Rattle.gs_run.proofs.laws.printed_are_evaluated.Goals as goal

pub returns : goal.returns
returns c = printed_evaluated
