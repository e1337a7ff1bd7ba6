use Rattle.gs_tree.specs.Trees.{rules_of}
use Rattle.gs_boards.proofs.BoardRemainders.{AreDoneBefore}
use Rattle.gs_boards.proofs.remainders.deal_remainders.Given as goal

abbrev pub invariant-loop-signal : goal.invariant-loop-signal
invariant-loop-signal l = AreDoneBefore (rules_of l.signals) l.firsts l.numbers l.signal l.sums.items
