use Rattle.std.proofs.Common.{arith}
use Rattle.gs_card.proofs.decks.Deck.copy.Goals as goal

pub returns : goal.returns
returns c = grind arith

pub invariant_of-result : goal.invariant_of-result
invariant_of-result c = grind arith
