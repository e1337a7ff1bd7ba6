use Rattle.std.proofs.Common.{◌≡◌, ◌≢◌, ◌<◌}
use Rattle.gs_model.specs.Frame.{player_at}
use Rattle.gs_best.specs.{Rows.{AreGreatest, AreSums}, ClassTotals.{total_worth}, WalkPoints.{frame_on, lists_on, totals_on}}
use Rattle.gs_best.proofs.merging.merge_moves.Given as goal

abbrev pub invariant-loop-choice : goal.invariant-loop-choice
invariant-loop-choice l =
    let f = frame_on l.at in
    let lists = lists_on l.at in
    let worth = total_worth f lists (totals_on l.at) in
    record {
      own : player_at f l.at.point ≡ l.at.side.player → 0 < l.choice → AreGreatest f lists worth l.at.point l.choice l.best l.moves;
      others : player_at f l.at.point ≢ l.at.side.player → 0 < l.choice → AreSums f lists worth l.at.point l.choice l.best;
    }
