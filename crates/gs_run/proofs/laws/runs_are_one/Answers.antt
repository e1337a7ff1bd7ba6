use Rattle.gs_run.proofs.Decided.{one_reply}
use Rattle.gs_run.proofs.laws.runs_are_one.Goals as goal

pub returns : goal.returns
returns c = one_reply
