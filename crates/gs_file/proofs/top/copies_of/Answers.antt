use Rattle.std.proofs.Common.{arith}
use Rattle.gs_file.proofs.top.copies_of.Goals as goal

pub returns-in_ok-value-in-Json : goal.returns-in_ok-value-in-Json
returns-in_ok-value-in-Json c = grind arith

pub returns-in-File : goal.returns-in-File
returns-in-File c = grind arith
