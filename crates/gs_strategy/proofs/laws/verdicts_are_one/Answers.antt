use Rattle.gs_strategy.proofs.Verdicts.{verdicts_one}
use Rattle.gs_strategy.proofs.laws.verdicts_are_one.Goals as goal

pub returns : goal.returns
returns c = verdicts_one
