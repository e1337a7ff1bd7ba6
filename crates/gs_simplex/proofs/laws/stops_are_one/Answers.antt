use Rattle.gs_simplex.proofs.OneStop.{stops_agree}
use Rattle.gs_simplex.proofs.laws.stops_are_one.Goals as goal

pub returns : goal.returns
returns c = stops_agree
