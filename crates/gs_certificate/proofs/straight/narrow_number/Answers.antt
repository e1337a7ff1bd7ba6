use Rattle.std.proofs.Common.{rules, arith}
use Rattle.gs_certificate.proofs.straight.narrow_number.Goals as goal

pub returns-then-negative : goal.returns-then-negative
returns-then-negative c = search rules

pub returns-else-negative : goal.returns-else-negative
returns-else-negative c = grind arith
