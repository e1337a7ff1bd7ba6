use Rattle.gs_seq.specs.Abstracts.{abstract_frame}
use Rattle.gs_play.specs.Plots.{AreMovesNoted}
use Rattle.gs_play.proofs.plot.lay_ways.Given as goal

abbrev pub invariant-loop-choice : goal.invariant-loop-choice
invariant-loop-choice l = AreMovesNoted (abstract_frame l.form) l.point l.choice l.to_points l.to_ends
