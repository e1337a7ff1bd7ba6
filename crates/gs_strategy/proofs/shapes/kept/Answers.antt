use Rattle.std.proofs.Common.{arith}
use Rattle.gs_strategy.proofs.shapes.kept.Goals as goal

pub returns-in-Some : goal.returns-in-Some
returns-in-Some c = grind arith
