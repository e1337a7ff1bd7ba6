use Rattle.std.proofs.{Common.{arith}, lemmas.Grind.{common_steps}}
use Rattle.gs_filter.proofs.fault.ClassFaultDisplay.fmt.Goals as goal

pub returns-in-ParentsApart-clause-writes : goal.returns-in-ParentsApart-clause-writes
returns-in-ParentsApart-clause-writes c = grind (arith, common_steps)

pub returns-in-NotFirstSeen-clause-writes : goal.returns-in-NotFirstSeen-clause-writes
returns-in-NotFirstSeen-clause-writes c = grind (arith, common_steps)
