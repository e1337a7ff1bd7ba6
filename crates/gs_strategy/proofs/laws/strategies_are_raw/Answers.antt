use Rattle.gs_strategy.proofs.Strategies.{strategies_raw}
use Rattle.gs_strategy.proofs.laws.strategies_are_raw.Goals as goal

pub returns : goal.returns
returns c = strategies_raw
