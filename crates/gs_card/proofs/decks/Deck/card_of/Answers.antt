use Rattle.std.proofs.{Common.{arith}, lemmas.Grind.{common_steps}}
use Rattle.gs_card.proofs.decks.Deck.card_of.Goals as goal

pub returns-clause-found : goal.returns-clause-found
returns-clause-found c = grind (arith, common_steps)

pub returns-clause-all : goal.returns-clause-all
returns-clause-all c = grind arith

pub returns-in_err-number-clause-all : goal.returns-in_err-number-clause-all
returns-in_err-number-clause-all c = grind arith

pub number_of-requires-clause-few : goal.number_of-requires-clause-few
number_of-requires-clause-few c = grind arith

pub returns-in_err-number-clause-found : goal.returns-in_err-number-clause-found
returns-in_err-number-clause-found c = grind arith

pub bounds-suit-1 : goal.bounds-suit-1
bounds-suit-1 c = omega arith
