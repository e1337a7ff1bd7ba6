use Rattle.std.proofs.Common.{arith}
use Rattle.gs_file.specs.Reading.{round_built}
use Rattle.gs_file.proofs.build.round_of.Goals as goal

pub returns-clause-gives : goal.returns-clause-gives
unfolding round_built
returns-clause-gives c = grind arith
