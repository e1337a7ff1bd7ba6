use Rattle.std.proofs.lemmas.Grind.{common_steps}
use Rattle.std.proofs.Common.{arith}
use Rattle.gs_seq.proofs.form.Abstract.first_of.Goals as goal

pub returns : goal.returns
returns c = grind (arith, common_steps)

pub first-requires : goal.first-requires
first-requires c = grind (arith, common_steps)
