use Rattle.gs_run.proofs.Answering.{answers_one}
use Rattle.gs_run.proofs.laws.answers_are_one.Goals as goal

pub returns : goal.returns
returns c = answers_one
