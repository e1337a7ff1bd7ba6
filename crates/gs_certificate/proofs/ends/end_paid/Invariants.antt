use Rattle.std.proofs.Common.{◌≡◌}
use Rattle.std.specs.List.{range_with_len}
use Rattle.gs_model.specs.Sums.{sum_z}
use Rattle.gs_seq.specs.{Abstracts.{abstract_frame, lists_of}, Plans.{class_plan}}
use Rattle.gs_seq.proofs.EndTotals.{class_term}
use Rattle.gs_certificate.proofs.ends.end_paid.Given as goal

abbrev pub invariant-loop-before : goal.invariant-loop-before
invariant-loop-before l =
    let f = abstract_frame l.first.form.now in
    let ls = lists_of l.first.form.now in
    l.sum ≡ sum_z (class_term f ls (class_plan f ls l.x) (class_plan f ls l.first.other.now) l.end) (range_with_len 1 l.before)
