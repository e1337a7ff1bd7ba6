use Rattle.gs_robinson.proofs.Converged.{turns_converge}
use Rattle.gs_robinson.proofs.turns_converge.Goals as goal

pub returns : goal.returns
returns c = turns_converge
