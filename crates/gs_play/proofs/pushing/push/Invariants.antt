use Rattle.std.proofs.Common.{ℕ}
use Rattle.std.specs.Prelude.{ℤ}
use Rattle.gs_game.specs.Seen.{step_of}
use Rattle.gs_play.specs.{Pushes.{IsPushed}, Sides.{side_frame, side_lists}, Tallies.{IsTally, KeepsChoices}}
use Rattle.gs_play.proofs.Risen.{renewed_before}
use Rattle.gs_play.proofs.pushing.push.Given as goal

abbrev pub invariant-loop-end : goal.invariant-loop-end
invariant-loop-end l =
    let f = side_frame l.side in
    let lists = side_lists l.side in
    let player = l.side.player in
    record {
      kept : KeepsChoices f lists l.initial.tally l.tally;
      pushed : (pays rise rise' : ℕ → ℕ → ℤ) → IsPushed f lists player (step_of l.change.step) l.change.class l.change.is_on rise rise'
          → IsTally f lists player pays rise l.now l.initial.tally → IsTally f lists player pays (renewed_before rise rise' l.end) l.now l.tally;
    }
