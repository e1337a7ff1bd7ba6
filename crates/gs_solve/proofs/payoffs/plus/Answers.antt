use Rattle.std.proofs.Common.{rules}
use Rattle.gs_solve.proofs.payoffs.plus.Goals as goal

pub returns : goal.returns
returns c = search rules

pub overflow_add-result : goal.overflow_add-result
overflow_add-result c = search rules
