use Rattle.std.proofs.Common.{arith}
use Rattle.gs_seq.proofs.form.Abstract.row.Goals as goal

pub returns : goal.returns
returns c = grind arith

pub index-requires-2 : goal.index-requires-2
index-requires-2 c = grind arith
