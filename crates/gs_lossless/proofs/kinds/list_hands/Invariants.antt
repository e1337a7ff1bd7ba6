use Rattle.gs_lossless.proofs.Filled.{AreFilled, hand_of}
use Rattle.gs_lossless.proofs.kinds.list_hands.Given as goal

abbrev pub invariant-loop-place : goal.invariant-loop-place
invariant-loop-place l = AreFilled (hand_of l.board l.keys) l.hands.items l.board.seats.items l.place
