use Rattle.std.proofs.Common.{arith}
use Rattle.gs_seq.proofs.form.Abstract.signal_total.Goals as goal

pub returns : goal.returns
returns c = grind arith

pub signals-requires-clause-top : goal.signals-requires-clause-top
signals-requires-clause-top c = grind arith
