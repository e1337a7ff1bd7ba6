use Rattle.std.proofs.Common.{◌-◌, length}
use Rattle.gs_tree.specs.Trees.{rules_of}
use Rattle.gs_lossless.specs.Boards.{seat_of}
use Rattle.gs_tree.proofs.Chain.{IsOnChain}
use Rattle.gs_lossless.proofs.board.seats_beside.Given as goal

abbrev pub invariant-loop-signal : goal.invariant-loop-signal
invariant-loop-signal l = IsOnChain (rules_of l.signals) (seat_of (rules_of l.signals)) l.first l.signal l.seats.items

abbrev pub decreases-loop-signal : goal.decreases-loop-signal
decreases-loop-signal l = length l.nexts - l.signal
