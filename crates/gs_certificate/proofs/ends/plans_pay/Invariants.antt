use Rattle.std.proofs.Common.{◌≡◌}
use Rattle.std.specs.List.{range_with_len}
use Rattle.gs_model.specs.Sums.{sum_z}
use Rattle.gs_seq.specs.{Abstracts.{abstract_frame, lists_of}, Payoffs.{payoff_at}, Plans.{class_plan}}
use Rattle.gs_certificate.proofs.ends.plans_pay.Given as goal

abbrev pub invariant-loop-end : goal.invariant-loop-end
invariant-loop-end l =
    let f = abstract_frame l.first.form.now in
    let ls = lists_of l.first.form.now in
    l.sum ≡ sum_z (payoff_at f ls (class_plan f ls l.x) (class_plan f ls l.first.other.now)) (range_with_len 0 l.end)
