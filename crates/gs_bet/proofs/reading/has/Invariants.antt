use Rattle.std.proofs.Common.{◌≡◌, drop}
use Rattle.gs_bet.specs.{MoveLists.{has_letter}, TreeView.{plain_moves}}
use Rattle.gs_bet.proofs.reading.has.Given as goal

abbrev pub invariant-loop-next : goal.invariant-loop-next
invariant-loop-next l = has_letter (plain_moves l.moves) l.letter ≡ has_letter (plain_moves (drop l.next-index l.moves)) l.letter
