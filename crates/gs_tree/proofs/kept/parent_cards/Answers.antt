use Rattle.std.proofs.{Common.{arith}, lemmas.Grind.{common_steps}}
use Rattle.gs_tree.proofs.kept.parent_cards.Goals as goal

pub loop-parent-preserved : goal.loop-parent-preserved
loop-parent-preserved c = grind (arith, common_steps)

pub returns : goal.returns
returns c = grind (arith, common_steps)

pub bounds-before-parent : goal.bounds-before-parent
bounds-before-parent c = c.requires c.loop-parent.parent-index 0 c.loop-parent-test.true
