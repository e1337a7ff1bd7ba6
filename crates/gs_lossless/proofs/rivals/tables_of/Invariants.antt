use Rattle.std.specs.List.{All}
use Rattle.gs_tree.specs.Trees.{rules_of}
use Rattle.gs_lossless.specs.Rivals.{IsRivalTable}
use Rattle.gs_lossless.proofs.rivals.tables_of.Given as goal

abbrev pub invariant-loop-signal : goal.invariant-loop-signal
invariant-loop-signal l = All (IsRivalTable (rules_of l.signals) l.keys) l.tables.items
