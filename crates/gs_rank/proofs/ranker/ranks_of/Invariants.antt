use Rattle.std.proofs.Common.{◌≡◌, ◌<◌, All, length, map}
use Rattle.std.specs.List.{range_with_len}
use Rattle.gs_model.specs.Outcome.{rank_of}
use Rattle.gs_rank.proofs.ranker.ranks_of.Given as goal

abbrev pub invariant-loop-kind : goal.invariant-loop-kind
invariant-loop-kind l = record {
  ranks : l.ranks.items ≡ map (rank_of (length l.deck.suits)) (range_with_len 0 l.kind);
  low : All (λ rank. rank < 64) l.ranks.items;
}
