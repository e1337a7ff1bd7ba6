use Rattle.std.specs.List.{All}
use Rattle.gs_tree.specs.Trees.{rules_of}
use Rattle.gs_lossless.specs.Boards.{IsBoard}
use Rattle.gs_lossless.proofs.board.boards_of.Given as goal

abbrev pub invariant-loop-signal : goal.invariant-loop-signal
invariant-loop-signal l = All (IsBoard (rules_of l.signals) l.by_rank) l.boards.items
