use Rattle.gs_strategy.proofs.OneReading.{reads_one}
use Rattle.gs_strategy.proofs.laws.readings_are_one.Goals as goal

pub returns : goal.returns
returns c = reads_one
