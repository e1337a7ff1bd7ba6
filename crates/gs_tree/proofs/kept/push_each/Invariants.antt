use Rattle.std.proofs.Common.{◌≡◌, ◌++◌, take}
use Rattle.gs_tree.proofs.kept.push_each.Given as goal

abbrev pub invariant-loop-card : goal.invariant-loop-card
invariant-loop-card l = l.cards.items ≡ l.fn.cards.items ++ take l.card-index l.more
