use Rattle.std.proofs.{Common.{◌≡◌, ◌<◌, ℕ, List, length, map, ap, sym, ◌∙◌, subst, arith}, lemmas.List.Elements.{All-push}}
use Rattle.std.specs.{Prelude.{All}, List.{range_with_len}}
use Rattle.gs_card.specs.Decks.{kinds}
use Rattle.gs_model.specs.Outcome.{rank_of}
use Rattle.gs_rank.proofs.Kept.{kept_more, rank_small}
use Rattle.gs_rank.proofs.ranker.ranks_of.Goals as goal

pub loop-kind-preserved : goal.loop-kind-preserved
loop-kind-preserved c =
    let suits = length c.args.deck.now.suits in
    let i = c.loop-kind.kind in
    let is : c.rank.result ≡ rank_of suits i = c.rank.ensures.rank ∙ ap (rank_of suits) c.new.ensures in
    let low = rank_small suits (kinds c.args.deck.now) i c.rank.result c.kinds-kinds.ensures.deck.few
    (omega (arith, c.kinds-kinds.ensures.number, c.loop-kind-test.true)) is in
    record {
      ranks = kept_more (rank_of suits) i c.rank.result c.loop-kind.ranks.items c.push.new.self.items c.in_ok-push.ensures.items c.loop-kind.invariant.ranks is;
      low = subst (λ (xs : List ℕ). All (λ rank. rank < 64) xs) (sym c.in_ok-push.ensures.items)
          (All-push (λ rank. rank < 64) c.loop-kind.ranks.items c.rank.result c.loop-kind.invariant.low low);
    }

pub returns-clause-ranks : goal.returns-clause-ranks
returns-clause-ranks c =
    let end : c.loop-kind.kind ≡ kinds c.args.deck.now = omega (arith, c.kinds-kinds.ensures.number) in
    c.loop-kind.invariant.ranks ∙ ap (λ n. map (rank_of (length c.args.deck.now.suits)) (range_with_len 0 n)) end
