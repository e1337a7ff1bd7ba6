use Rattle.gs_length.proofs.Printed.{printed_well}
use Rattle.gs_length.proofs.printed_evaluate_well.Goals as goal

pub returns : goal.returns
returns c = printed_well
