use Rattle.std.proofs.lemmas.Grind.{common_steps}
use Rattle.std.proofs.Common.{arith}
use Rattle.gs_seq.proofs.form.Abstract.class_at.Goals as goal

pub class_of-requires : goal.class_of-requires
class_of-requires c = grind (arith, common_steps)

pub returns : goal.returns
returns c = grind (arith, common_steps)
