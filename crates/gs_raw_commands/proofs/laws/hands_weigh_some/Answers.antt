use Rattle.gs_raw_commands.proofs.RawGames.{hands_weigh}
use Rattle.gs_raw_commands.proofs.laws.hands_weigh_some.Goals as goal

pub returns : goal.returns
returns c = hands_weigh
