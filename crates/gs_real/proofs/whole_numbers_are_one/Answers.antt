use Rattle.gs_real.proofs.Wholes.{wholes_are_one}
use Rattle.gs_real.proofs.whole_numbers_are_one.Goals as goal

pub returns : goal.returns
returns c = wholes_are_one
