use Rattle.gs_strategy.proofs.Verdicts.{hand_one}
use Rattle.gs_strategy.proofs.laws.hands_are_one.Goals as goal

pub returns : goal.returns
returns c = hand_one
