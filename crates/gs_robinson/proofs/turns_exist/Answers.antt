use Rattle.gs_robinson.proofs.Existing.{turns_exist}
use Rattle.gs_robinson.proofs.turns_exist.Goals as goal

pub returns : goal.returns
returns c = turns_exist
