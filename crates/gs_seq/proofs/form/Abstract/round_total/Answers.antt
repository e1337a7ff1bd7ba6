use Rattle.std.proofs.Common.{arith}
use Rattle.gs_seq.proofs.form.Abstract.round_total.Goals as goal

pub returns-clause-value : goal.returns-clause-value
returns-clause-value c = grind arith
