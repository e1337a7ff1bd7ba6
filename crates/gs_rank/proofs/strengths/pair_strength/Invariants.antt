use Rattle.std.proofs.Common.{◌≡◌, ◌==◌, false, take, length}
use Rattle.std.specs.List.{list_any}
use Rattle.gs_model.specs.Outcome.{rank_of}
use Rattle.gs_rank.proofs.strengths.pair_strength.Given as goal

abbrev pub invariant-loop-card : goal.invariant-loop-card
invariant-loop-card l = record {
  rank_is : l.rank ≡ rank_of (length l.fn.ranker.deck.now.suits) l.fn.own;
  strength_is : l.strength ≡ l.rank;
  none : list_any (λ c. rank_of (length l.fn.ranker.deck.now.suits) c == rank_of (length l.fn.ranker.deck.now.suits) l.fn.own) (take l.card-index l.public)
      ≡ false;
}
