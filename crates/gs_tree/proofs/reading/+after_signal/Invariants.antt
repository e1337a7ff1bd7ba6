use Rattle.gs_tree.proofs.reading.+after_signal.Given as goal

abbrev pub decreases-after_signal : goal.decreases-after_signal
decreases-after_signal l = l.round
