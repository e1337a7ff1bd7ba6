use Rattle.gs_robinson.proofs.Converged.{turns_converge_from}
use Rattle.gs_robinson.proofs.turns_converge_from.Goals as goal

pub returns : goal.returns
returns c = turns_converge_from
