use Rattle.std.proofs.lemmas.Grind.{common_steps}
use Rattle.std.proofs.Common.{arith}
use Rattle.gs_tree.proofs.ways.Ways.len.Goals as goal

pub overflow_add-result-2 : goal.overflow_add-result-2
overflow_add-result-2 c = omega (arith, c.len.ensures, c.len-2.ensures, c.self.inside.few, c.self.inside.rest.small, c.self.inside.wide.small)

pub returns : goal.returns
returns c = grind (arith, common_steps)
