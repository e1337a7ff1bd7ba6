use Rattle.std.proofs.Common.{◌≡◌, ◌<◌, ℕ, get_or, length, ap, sym, ◌∙◌, subst, arith}
use Rattle.gs_card.specs.Decks.{kinds}
use Rattle.gs_model.specs.Outcome.{rank_of}
use Rattle.gs_rank.proofs.Kept.{kept, kept_long}
use Rattle.gs_rank.proofs.ranker.Ranker.rank.Goals as goal

pub index-requires : goal.index-requires
index-requires c =
    let r = c.args.self.now in
    let long = kept_long (rank_of (length r.deck.now.suits)) (kinds r.deck.now) r.ranks.items r.ranked in
    omega (arith, long, r.ranks.ok.0, c.from.ensures, c.number.ensures, c.requires)

pub returns : goal.returns
returns c = record {
  rank = let r = c.args.self.now in
      let v = c.index.result.now in
      let at : c.from.result ≡ c.args.card = c.from.ensures ∙ c.number.ensures in
      c.index.ensures ∙ ap (λ (k : ℕ). get_or r.ranks.items k v) at
      ∙ kept (rank_of (length r.deck.now.suits)) (kinds r.deck.now) r.ranks.items c.args.card v r.ranked c.requires;
  low = let r = c.args.self.now in
      let long = kept_long (rank_of (length r.deck.now.suits)) (kinds r.deck.now) r.ranks.items r.ranked in
      subst (λ (x : ℕ). x < 64) (sym c.index.ensures) (r.low c.from.result c.index.result.now (omega (arith, long, c.from.ensures, c.number.ensures, c.requires)));
}
