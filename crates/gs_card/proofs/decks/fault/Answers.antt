use Rattle.std.proofs.Common.{arith}
use Rattle.gs_card.proofs.decks.fault.Goals as goal

pub returns-then-not-are_copies : goal.returns-then-not-are_copies
returns-then-not-are_copies c = grind arith

pub returns-else-not-are_copies : goal.returns-else-not-are_copies
returns-else-not-are_copies c = grind arith

pub are_too_many-requires-clause-some_suits : goal.are_too_many-requires-clause-some_suits
are_too_many-requires-clause-some_suits c = grind arith

pub are_too_many-requires-clause-some_ranks : goal.are_too_many-requires-clause-some_ranks
are_too_many-requires-clause-some_ranks c = grind arith

pub overflow_mul-ranks : goal.overflow_mul-ranks
overflow_mul-ranks c = grind arith

pub returns-then-has_repeat-2 : goal.returns-then-has_repeat-2
returns-then-has_repeat-2 c = grind arith

pub returns-then-are_too_many : goal.returns-then-are_too_many
returns-then-are_too_many c = grind arith
