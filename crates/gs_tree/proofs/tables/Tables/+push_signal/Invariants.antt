use Rattle.gs_tree.proofs.tables.Tables.+push_signal.Given as goal

abbrev pub decreases-push_signal : goal.decreases-push_signal
decreases-push_signal l = l.round
