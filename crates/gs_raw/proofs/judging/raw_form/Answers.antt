use Rattle.std.proofs.Common.{arith}
use Rattle.gs_raw.proofs.judging.raw_form.Goals as goal

pub returns-in-Ok-clause-small : goal.returns-in-Ok-clause-small
returns-in-Ok-clause-small c = grind arith
