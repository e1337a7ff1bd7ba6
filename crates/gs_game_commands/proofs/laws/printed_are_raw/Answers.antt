use Rattle.gs_game_commands.proofs.Printed.{printed_raw}
use Rattle.gs_game_commands.proofs.laws.printed_are_raw.Goals as goal

pub returns : goal.returns
returns c = printed_raw
