use Rattle.std.proofs.Common.{arith}
use Rattle.gs_seq.proofs.form.Abstract.end_class_total.Goals as goal

pub classes-requires-2-clause-top : goal.classes-requires-2-clause-top
classes-requires-2-clause-top c = grind arith

pub returns : goal.returns
returns c = grind arith
