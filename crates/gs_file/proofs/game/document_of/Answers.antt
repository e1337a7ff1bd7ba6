use Rattle.std.proofs.Common.{arith}
use Rattle.gs_file.proofs.game.document_of.Goals as goal

pub returns-in-Err-2 : goal.returns-in-Err-2
returns-in-Err-2 c = grind arith

pub returns-in-Ok : goal.returns-in-Ok
returns-in-Ok c = grind arith
