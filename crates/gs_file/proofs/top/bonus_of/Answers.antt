use Rattle.std.proofs.Common.{arith}
use Rattle.gs_file.proofs.top.bonus_of.Goals as goal

pub returns-in_ok-value-in-Two : goal.returns-in_ok-value-in-Two
returns-in_ok-value-in-Two c = grind arith

pub returns-in-One : goal.returns-in-One
returns-in-One c = grind arith
