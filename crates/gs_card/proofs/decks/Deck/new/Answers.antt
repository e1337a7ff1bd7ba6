use Rattle.std.proofs.Common.{arith}
use Rattle.std.proofs.Common.{sym, ◌∙◌}
use Rattle.gs_card.proofs.DeckLaws.{copied, sound_at}
use Rattle.gs_card.proofs.decks.Deck.new.Goals as goal

pub invariant_of-result : goal.invariant_of-result
invariant_of-result c = sound_at _ _ _ _ _ _ (sym c.fault.ensures ∙ c.in_default.is) c.in_ok-ranks.ensures.items c.in_ok-suits.ensures.items
    c.in_ok-counts.ensures

pub returns-clause-deck : goal.returns-clause-deck
returns-clause-deck c = sound_at _ _ _ _ _ _ (sym c.fault.ensures ∙ c.in_default.is) c.in_ok-ranks.ensures.items c.in_ok-suits.ensures.items
    c.in_ok-counts.ensures

pub counts-requires : goal.counts-requires
counts-requires c = copied c.as_bytes-ranks.result.now c.as_bytes-suits.result.now c.as_bytes-copies.result.now (sym c.fault.ensures ∙ c.in_default.is)

pub overflow_mul-ranks : goal.overflow_mul-ranks
overflow_mul-ranks c = grind arith

pub returns-clause-made : goal.returns-clause-made
returns-clause-made c = grind arith

pub returns-clause-refused : goal.returns-clause-refused
returns-clause-refused c = grind arith

pub returns-in-Some-clause-refused : goal.returns-in-Some-clause-refused
returns-in-Some-clause-refused c = grind arith

pub returns-in-Some-clause-made : goal.returns-in-Some-clause-made
returns-in-Some-clause-made c = grind arith
