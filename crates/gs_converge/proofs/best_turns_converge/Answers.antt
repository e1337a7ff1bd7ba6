use Rattle.gs_converge.proofs.Converged.{best_turns_converge}
use Rattle.gs_converge.proofs.best_turns_converge.Goals as goal

pub returns : goal.returns
returns c = best_turns_converge
