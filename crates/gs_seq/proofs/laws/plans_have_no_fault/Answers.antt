use Rattle.gs_seq.proofs.Kept.{plan_kept}
use Rattle.gs_seq.proofs.laws.plans_have_no_fault.Goals as goal

pub returns : goal.returns
returns c = plan_kept
