use Rattle.gs_lossless.proofs.Ranked.{AreRanked}
use Rattle.gs_lossless.proofs.board.rank.Given as goal

abbrev pub invariant-loop-place : goal.invariant-loop-place
invariant-loop-place l = AreRanked l.initial.seats.items l.place l.seats.items l.rank l.above
