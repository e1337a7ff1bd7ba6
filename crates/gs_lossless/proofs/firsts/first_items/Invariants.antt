use Rattle.gs_lossless.proofs.Items.{AreMade}
use Rattle.gs_lossless.proofs.firsts.first_items.Given as goal

abbrev pub invariant-loop-item : goal.invariant-loop-item
invariant-loop-item l = AreMade l.initial.marks.items l.item l.marks.items l.kept.items
