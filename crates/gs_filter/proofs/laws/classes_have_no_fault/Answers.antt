use Rattle.gs_filter.proofs.Kept.{classes_kept}
use Rattle.gs_filter.proofs.laws.classes_have_no_fault.Goals as goal

pub returns : goal.returns
returns c = classes_kept
