use Rattle.std.proofs.Common.{arith}
use Rattle.gs_seq.proofs.flows.plan_fault.Goals as goal

pub returns-in_err-point : goal.returns-in_err-point
returns-in_err-point c = grind arith

pub returns-then-total-eq0 : goal.returns-then-total-eq0
returns-then-total-eq0 c = grind arith

pub returns : goal.returns
returns c = grind arith

pub first_leak-requires-clause-long : goal.first_leak-requires-clause-long
first_leak-requires-clause-long c = omega arith
