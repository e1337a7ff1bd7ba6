use Rattle.gs_worked.proofs.Puts.{puts_are_chips as puts}
use Rattle.gs_worked.proofs.puts_are_chips.Goals as goal

pub returns : goal.returns
returns c = puts
