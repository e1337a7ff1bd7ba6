use Rattle.std.proofs.Common.{arith}
use Rattle.std.proofs.lemmas.Grind.{common_steps}
use Rattle.gs_certificate.proofs.straight.to_quote.Goals as goal

pub returns-then-b-eq34 : goal.returns-then-b-eq34
returns-then-b-eq34 c = grind (arith, common_steps)

pub slice_bounds-result-end : goal.slice_bounds-result-end
slice_bounds-result-end c = grind (arith, common_steps)
