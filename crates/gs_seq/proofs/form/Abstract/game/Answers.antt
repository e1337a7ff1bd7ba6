use Rattle.std.proofs.Common.{arith}
use Rattle.gs_seq.proofs.form.Abstract.game.Goals as goal

pub returns : goal.returns
returns c = grind arith
