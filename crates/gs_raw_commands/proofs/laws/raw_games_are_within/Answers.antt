use Rattle.gs_raw_commands.proofs.RawGames.{raw_games_within}
use Rattle.gs_raw_commands.proofs.laws.raw_games_are_within.Goals as goal

pub returns : goal.returns
returns c = raw_games_within
