use Rattle.gs_run.proofs.Confirming.{no_trouble}
use Rattle.gs_run.proofs.laws.confirmed_have_no_trouble.Goals as goal

pub returns : goal.returns
returns c = no_trouble
