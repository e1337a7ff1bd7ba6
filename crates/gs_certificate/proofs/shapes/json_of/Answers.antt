use Rattle.std.proofs.Common.{arith}
use Rattle.gs_certificate.proofs.shapes.json_of.Goals as goal

pub returns-in-Ok : goal.returns-in-Ok
returns-in-Ok c = grind arith

pub returns-in-Err-NotJson : goal.returns-in-Err-NotJson
returns-in-Err-NotJson c = grind arith
