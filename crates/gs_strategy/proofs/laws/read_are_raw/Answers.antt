use Rattle.gs_strategy.proofs.Strategies.{read_raw}
use Rattle.gs_strategy.proofs.laws.read_are_raw.Goals as goal

pub returns : goal.returns
returns c = read_raw
