use Rattle.std.proofs.Common.{arith}
use Rattle.gs_certificate.proofs.writing.bound_value.Goals as goal

pub returns : goal.returns
returns c = grind arith
