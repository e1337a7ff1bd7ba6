use Rattle.gs_game_commands.proofs.Printed.{printed_strategy}
use Rattle.gs_game_commands.proofs.laws.printed_are_strategies.Goals as goal

pub returns : goal.returns
returns c = printed_strategy
