use Rattle.gs_seq.specs.Abstracts.{abstract_frame}
use Rattle.gs_play.specs.Plots.{AreMovesNoted}
use Rattle.gs_play.proofs.plot.lay_all.Given as goal

abbrev pub invariant-loop-point : goal.invariant-loop-point
invariant-loop-point l = AreMovesNoted (abstract_frame l.form) l.point 0 l.to_points l.to_ends
