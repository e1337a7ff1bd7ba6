use Rattle.std.proofs.lemmas.Grind.{common_steps}
use Rattle.std.proofs.Common.{arith}
use Rattle.gs_certificate.proofs.ends.sums_of.Goals as goal

pub sums_in-requires : goal.sums_in-requires
sums_in-requires c = grind (arith, common_steps)

pub returns : goal.returns
returns c = grind arith
