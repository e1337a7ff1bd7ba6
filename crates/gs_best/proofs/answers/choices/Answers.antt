use Rattle.std.proofs.Common.{arith}
use Rattle.gs_best.proofs.answers.choices.Goals as goal

pub invariant_of-side : goal.invariant_of-side
invariant_of-side c = grind arith
