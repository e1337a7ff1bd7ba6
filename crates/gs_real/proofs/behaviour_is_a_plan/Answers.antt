use Rattle.gs_real.proofs.Behaviour.{behaviour_is_a_plan}
use Rattle.gs_real.proofs.behaviour_is_a_plan.Goals as goal

pub returns : goal.returns
returns c = behaviour_is_a_plan
