use Rattle.std.proofs.Common.{◌≡◌, take}
use Rattle.gs_model.specs.Cards.{left_after}
use Rattle.gs_tree.proofs.layer.take_cards.Given as goal

abbrev pub invariant-loop-card : goal.invariant-loop-card
invariant-loop-card l = l.rest.items ≡ left_after l.fn.rest.items (take l.card-index l.cards)
