use Rattle.gs_length.proofs.Printed.{printed_fit}
use Rattle.gs_length.proofs.printed_fit_inputs.Goals as goal

pub returns : goal.returns
returns c = printed_fit
