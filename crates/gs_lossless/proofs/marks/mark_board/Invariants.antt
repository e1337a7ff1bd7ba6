use Rattle.gs_lossless.specs.Boards.{seat_signals}
use Rattle.gs_lossless.proofs.Marked.{MayMark}
use Rattle.gs_lossless.proofs.marks.mark_board.Given as goal

abbrev pub invariant-loop-place : goal.invariant-loop-place
invariant-loop-place l = MayMark (seat_signals l.seats) l.hands (seat_signals l.others) l.other_hands l.initial.marks l.marks
