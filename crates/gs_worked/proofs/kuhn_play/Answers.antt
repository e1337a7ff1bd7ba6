use Rattle.gs_worked.proofs.KuhnPlay.{kuhn_play as play}
use Rattle.gs_worked.proofs.kuhn_play.Goals as goal

pub returns : goal.returns
returns c = play
