use Rattle.gs_file.proofs.States.{states_is, states_ok}
use Rattle.gs_file.proofs.laws.files_are_stated.Goals as goal

pub returns : goal.returns
returns c bytes g = (states_ok bytes g, states_is bytes g)
