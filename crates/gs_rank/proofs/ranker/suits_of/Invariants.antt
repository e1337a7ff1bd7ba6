use Rattle.std.proofs.Common.{◌≡◌, length, map}
use Rattle.std.specs.List.{range_with_len}
use Rattle.gs_model.specs.Outcome.{suit_of}
use Rattle.gs_rank.proofs.ranker.suits_of.Given as goal

abbrev pub invariant-loop-kind : goal.invariant-loop-kind
invariant-loop-kind l = l.suits.items ≡ map (suit_of (length l.deck.suits)) (range_with_len 0 l.kind)
