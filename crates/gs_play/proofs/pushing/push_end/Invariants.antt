use Rattle.std.proofs.Common.{ℕ}
use Rattle.std.specs.Prelude.{ℤ}
use Rattle.gs_model.specs.{Frame.{payoff_to, round_of}, Pairs.{pair_sum}, Positions.{at_end}}
use Rattle.gs_play.specs.{Sides.{side_frame, side_lists}, Tallies.{HasRisen, KeepsChoices}}
use Rattle.gs_play.proofs.Risen.{run_adds}
use Rattle.gs_play.proofs.pushing.push_end.Given as goal

abbrev pub invariant-loop-class : goal.invariant-loop-class
invariant-loop-class l =
    let f = side_frame l.side in
    let lists = side_lists l.side in
    let player = l.side.player in
    let paid : ℕ → ℕ → ℤ = λ c k. pair_sum f lists lists (round_of f (at_end l.end)) (payoff_to f player l.end) c k in
    record {
      kept : KeepsChoices f lists l.initial.tally l.tally;
      pushed : HasRisen f lists player l.end (run_adds l.change.is_on paid l.initial.class l.class) l.now l.initial.tally l.tally;
    }
