use Rattle.gs_run.proofs.OneEach.{told_play_one}
use Rattle.gs_run.proofs.laws.plays_are_one.Goals as goal

pub returns : goal.returns
returns c = told_play_one
