use Rattle.gs_best.specs.Tables.{moves_of}
use Rattle.gs_play.specs.Sides.{side_frame, side_lists}
use Rattle.gs_play.proofs.Retaken.{IsRenewing}
use Rattle.gs_play.proofs.answers.renew_point.Given as goal

abbrev pub invariant-loop-class : goal.invariant-loop-class
invariant-loop-class l =
    let f = side_frame l.side in let lists = side_lists l.side in
    IsRenewing f lists l.side.player l.point l.class l.now (moves_of f lists l.picks) l.initial.answer l.answer l.initial.tally l.tally
