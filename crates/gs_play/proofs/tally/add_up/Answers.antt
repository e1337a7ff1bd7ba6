use Rattle.std.proofs.lemmas.Grind.{common_steps}
use Rattle.std.proofs.Common.{arith}
use Rattle.gs_play.proofs.tally.add_up.Goals as goal

pub returns-clause-found : goal.returns-clause-found
returns-clause-found c = grind arith

pub set_due-requires : goal.set_due-requires
set_due-requires c = grind (arith, common_steps)

pub returns-clause-dues : goal.returns-clause-dues
returns-clause-dues c = grind arith

pub returns-clause-blocks : goal.returns-clause-blocks
returns-clause-blocks c = grind arith
