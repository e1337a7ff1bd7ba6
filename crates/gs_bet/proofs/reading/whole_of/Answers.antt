use Rattle.std.proofs.Common.{arith}
use Rattle.gs_bet.specs.Reading.{all_of}
use Rattle.gs_bet.proofs.reading.whole_of.Goals as goal

pub returns : goal.returns
unfolding all_of
returns c = grind arith
