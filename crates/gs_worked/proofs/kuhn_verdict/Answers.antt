use Rattle.gs_worked.proofs.KuhnVerdict.{kuhn_verdict as verdict}
use Rattle.gs_worked.proofs.kuhn_verdict.Goals as goal

pub returns : goal.returns
returns c = verdict
