use Rattle.gs_converge.proofs.Converged.{play_converges}
use Rattle.gs_converge.proofs.play_converges.Goals as goal

pub returns : goal.returns
returns c = play_converges
