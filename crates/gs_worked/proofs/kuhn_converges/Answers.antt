use Rattle.gs_worked.proofs.KuhnConverges.{kuhn_converges as converges}
use Rattle.gs_worked.proofs.kuhn_converges.Goals as goal

pub returns : goal.returns
returns c = converges
