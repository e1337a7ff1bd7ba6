use Rattle.gs_tree.specs.Trees.{rules_of}
use Rattle.gs_boards.proofs.Placed.{ArePlacedBefore}
use Rattle.gs_boards.proofs.place.places_of.Given as goal

abbrev pub invariant-loop-signal : goal.invariant-loop-signal
invariant-loop-signal l = ArePlacedBefore (rules_of l.signals) l.firsts l.signal l.places.items
