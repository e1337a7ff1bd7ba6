use Rattle.gs_converge.proofs.Converged.{gaps_converge}
use Rattle.gs_converge.proofs.gaps_converge.Goals as goal

pub returns : goal.returns
returns c = gaps_converge
