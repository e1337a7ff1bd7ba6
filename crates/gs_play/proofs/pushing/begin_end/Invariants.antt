use Rattle.std.proofs.Common.{◌-◌, get_or}
use Rattle.std.specs.Prelude.{pos}
use Rattle.gs_play.specs.{Sides.{side_frame, side_lists}, Tallies.{HasRisen, KeepsChoices}}
use Rattle.gs_play.proofs.Risen.{adds_below}
use Rattle.gs_play.proofs.pushing.begin_end.Given as goal

abbrev pub invariant-loop-class : goal.invariant-loop-class
invariant-loop-class l =
    let f = side_frame l.side in
    let lists = side_lists l.side in
    record {
      kept : KeepsChoices f lists l.initial.tally l.tally;
      begun : HasRisen f lists l.side.player l.end (adds_below (λ c. get_or l.fn.sums (c - 1) (pos 0)) l.class) 0 l.initial.tally l.tally;
    }
