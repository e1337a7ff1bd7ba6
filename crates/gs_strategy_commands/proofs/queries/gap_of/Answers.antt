use Rattle.std.proofs.Common.{rules}
use Rattle.gs_strategy_commands.proofs.queries.gap_of.Goals as goal

pub returns-then-player-eq1 : goal.returns-then-player-eq1
returns-then-player-eq1 c = search rules
