use Rattle.gs_raw_commands.proofs.RawGames.{raw_sequences_few}
use Rattle.gs_raw_commands.proofs.laws.raw_sequences_are_few.Goals as goal

pub returns : goal.returns
returns c = raw_sequences_few
