use Rattle.gs_seq.specs.{Abstracts.{abstract_frame, lists_of}, Plans.{lifted}}
use Rattle.gs_lift.proofs.Mixed.{IsMixtureOf}
use Rattle.gs_lift.proofs.mixture.mix.Given as goal

abbrev pub invariant-loop-choice : goal.invariant-loop-choice
invariant-loop-choice l = IsMixtureOf (abstract_frame l.a) (lifted (abstract_frame l.a) (lists_of l.a) l.plan) l.spot.point l.spot.signal l.arrow-items
    l.choice l.out
