use Rattle.std.proofs.lemmas.Grind.{common_steps}
use Rattle.std.proofs.Common.{arith}
use Rattle.gs_seq.proofs.form.Abstract.number_at_end.Goals as goal

pub returns : goal.returns
returns c = grind (arith, common_steps)

pub number_at-requires-clause-class : goal.number_at-requires-clause-class
number_at-requires-clause-class c = grind arith

pub plan_at-requires-clause-plan : goal.plan_at-requires-clause-plan
plan_at-requires-clause-plan c = grind arith
