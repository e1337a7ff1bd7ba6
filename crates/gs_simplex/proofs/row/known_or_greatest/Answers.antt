use Rattle.std.proofs.{Common.{arith}, lemmas.Grind.{common_steps}}
use Rattle.gs_simplex.proofs.row.known_or_greatest.Goals as goal

pub returns-then-stays_narrow : goal.returns-then-stays_narrow
returns-then-stays_narrow c = grind (arith, common_steps)

pub stays_narrow-requires : goal.stays_narrow-requires
stays_narrow-requires c = grind (arith, common_steps)

pub returns : goal.returns
returns c = grind arith
