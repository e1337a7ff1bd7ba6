use Rattle.std.proofs.Common.{arith}
use Rattle.gs_card.proofs.decks.Deck.rank.Goals as goal

pub returns-clause-of_deck : goal.returns-clause-of_deck
returns-clause-of_deck c = grind arith
