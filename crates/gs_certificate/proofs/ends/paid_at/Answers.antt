use Rattle.std.proofs.Common.{arith, rules}
use Rattle.gs_certificate.proofs.ends.paid_at.Goals as goal

pub end_sum-requires-clause-other : goal.end_sum-requires-clause-other
end_sum-requires-clause-other c = grind arith

pub returns-in-None : goal.returns-in-None
returns-in-None c = search rules

pub returns-in-Some : goal.returns-in-Some
returns-in-Some c = search rules

pub kept_at-requires-clause-ends : goal.kept_at-requires-clause-ends
kept_at-requires-clause-ends c = grind arith
