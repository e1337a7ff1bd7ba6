use Rattle.std.proofs.Common.{arith}
use Rattle.gs_tree.proofs.Ones.{ones_alone}
use Rattle.gs_tree.proofs.ways.Ways.ones.Goals as goal

pub returns-then-is_empty-2 : goal.returns-then-is_empty-2
returns-then-is_empty-2 c =
    ones_alone c.self.inside.ones c.self.inside.rest.items c.self.inside.wide.items c.args.self.now c.self.view_is
    (grind (arith, c.is_empty.ensures, c.if-is_empty.true, c.self.inside.rest.ok.0))
    (grind (arith, c.is_empty-then-is_empty.ensures, c.if-is_empty-2.true, c.self.inside.wide.ok.0))
