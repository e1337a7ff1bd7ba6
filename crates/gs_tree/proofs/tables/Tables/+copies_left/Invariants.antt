use Rattle.gs_tree.proofs.tables.Tables.+copies_left.Given as goal

abbrev pub decreases-copies_left : goal.decreases-copies_left
decreases-copies_left l = l.round
