use Rattle.std.proofs.Common.{ℕ}
use Rattle.std.specs.Prelude.{ℤ, pos}
use Rattle.gs_seq.specs.{Payoffs.{end_sum}, Plans.{class_plan}}
use Rattle.gs_play.specs.{Sides.{side_frame, side_lists}, Tallies.{IsTally, KeepsChoices}}
use Rattle.gs_play.proofs.Risen.{renewed_before}
use Rattle.gs_play.proofs.pushing.begin_ends.Given as goal

abbrev pub invariant-loop-end : goal.invariant-loop-end
invariant-loop-end l =
    let f = side_frame l.side in
    let lists = side_lists l.side in
    let player = l.side.player in
    let none : ℕ → ℕ → ℤ = λ z c. pos 0 in
    record {
      kept : KeepsChoices f lists l.initial.tally l.tally;
      begun : IsTally f lists player none none 0 l.initial.tally
          → IsTally f lists player none (renewed_before none (end_sum f lists player (class_plan f lists l.other)) l.end) 0 l.tally;
    }
