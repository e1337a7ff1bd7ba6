use Rattle.gs_seq.specs.Abstracts.{abstract_frame}
use Rattle.gs_play.specs.Plots.{AreSpans}
use Rattle.gs_play.proofs.plot.widen_all.Given as goal

abbrev pub invariant-loop-end : goal.invariant-loop-end
invariant-loop-end l = AreSpans (abstract_frame l.form) l.end l.spans
