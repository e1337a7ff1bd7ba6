use Rattle.gs_strategy.proofs.Strategies.{reads_strategy}
use Rattle.gs_strategy.proofs.laws.read_are_strategies.Goals as goal

pub returns : goal.returns
returns c = reads_strategy
