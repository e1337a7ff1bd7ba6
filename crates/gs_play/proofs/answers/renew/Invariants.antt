use Rattle.std.proofs.Common.{◌≡◌, ℕ, ◌<◌, ◌≤◌, false, get_or}
use Rattle.gs_best.specs.Tables.{moves_of}
use Rattle.gs_play.specs.{Answers.{IsRenewed, IsSameTally}, Sides.{side_frame, side_lists}, Tallies.{HasTallyRoom}}
use Rattle.gs_play.proofs.Again.{IsAgain}
use Rattle.gs_play.proofs.answers.renew.Given as goal

abbrev pub invariant-loop-point : goal.invariant-loop-point
invariant-loop-point l = let f = side_frame l.side in let lists = side_lists l.side in record {
  renewed : IsRenewed f lists l.side.player l.now l.initial.answer l.answer l.initial.tally l.tally;
  own : HasTallyRoom f lists l.own;
  same : IsSameTally l.initial.own l.own;
  cleared : (q : ℕ) → q < l.point → get_or l.own.moved.items q false ≡ false;
  as_it_was : (q : ℕ) → l.point ≤ q → get_or l.own.moved.items q false ≡ get_or l.initial.own.moved.items q false;
  done : IsAgain f lists l.side.player l.point (moves_of f lists l.initial.own.picks.items) l.initial.answer l.answer;
}
