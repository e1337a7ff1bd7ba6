use Rattle.std.proofs.Common.{◌≡◌, map, slice_index, take}
use Rattle.gs_tree.proofs.kept.parent_cards.Given as goal

abbrev pub invariant-loop-parent : goal.invariant-loop-parent
invariant-loop-parent l = l.cards.items ≡ map (slice_index l.before) (take l.parent-index l.parents)
