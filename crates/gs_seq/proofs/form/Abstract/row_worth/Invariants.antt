use Rattle.gs_seq.specs.{Abstracts.{abstract_frame, lists_of}, Plans.{class_plan}}
use Rattle.gs_seq.proofs.{EndSums.{pair_term}, Turns.{IsCome}}
use Rattle.gs_seq.proofs.form.Abstract.row_worth.Given as goal

abbrev pub invariant-loop-pair : goal.invariant-loop-pair
invariant-loop-pair l =
    let f = abstract_frame l.self in
    let lists = lists_of l.self in
    IsCome (pair_term f lists l.player (class_plan f lists l.other.plan.now) l.other.end) l.fn.row l.pair-iterator l.sum
