use Rattle.std.proofs.Common.{◌≡◌, ◌≤◌, count_by}
use Rattle.std.specs.{Prelude.{◌==◌}, List.{range_with_len}}
use Rattle.gs_model.specs.{Frame.{round_of}, Positions.{at_point}}
use Rattle.gs_seq.specs.Abstracts.{abstract_frame}
use Rattle.gs_best.proofs.work.points_of.Given as goal

abbrev pub invariant-loop-point : goal.invariant-loop-point
invariant-loop-point l = record {
  count_is : l.count ≡ count_by (λ q. round_of (abstract_frame l.form) (at_point q) == l.round) (range_with_len 0 l.point);
  within : l.count ≤ l.point;
}
