use Rattle.gs_seq.specs.{Abstracts.{abstract_frame, lists_of}, Plans.{class_plan}}
use Rattle.gs_certificate.specs.Paid.{AreKept}
use Rattle.gs_certificate.proofs.ends.sums_in.Given as goal

abbrev pub invariant-loop-end : goal.invariant-loop-end
invariant-loop-end l = let f = abstract_frame l.side.form.now in let lists = lists_of l.side.form.now in
    AreKept f lists l.side.player (class_plan f lists l.side.other.now) l.end l.starts.items l.sums.items
