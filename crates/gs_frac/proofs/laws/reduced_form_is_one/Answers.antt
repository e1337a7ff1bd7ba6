use Rattle.gs_frac.proofs.OneForm.{one_form}
use Rattle.gs_frac.proofs.laws.reduced_form_is_one.Goals as goal

pub returns : goal.returns
returns c = one_form
