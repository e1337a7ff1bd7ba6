use Rattle.std.proofs.Common.{◌≡◌, ℕ, get_or, length, ap, ◌∙◌, arith}
use Rattle.gs_card.specs.Decks.{kinds}
use Rattle.gs_model.specs.Outcome.{suit_of}
use Rattle.gs_rank.proofs.Kept.{kept, kept_long}
use Rattle.gs_rank.proofs.ranker.Ranker.suit.Goals as goal

pub index-requires : goal.index-requires
index-requires c =
    let r = c.args.self.now in
    let long = kept_long (suit_of (length r.deck.now.suits)) (kinds r.deck.now) r.suits.items r.suited in
    omega (arith, long, r.suits.ok.0, c.from.ensures, c.number.ensures, c.requires)

pub returns : goal.returns
returns c =
    let r = c.args.self.now in
    let v = c.index.result.now in
    let at : c.from.result ≡ c.args.card = c.from.ensures ∙ c.number.ensures in
    c.index.ensures ∙ ap (λ (k : ℕ). get_or r.suits.items k v) at
    ∙ kept (suit_of (length r.deck.now.suits)) (kinds r.deck.now) r.suits.items c.args.card v r.suited c.requires
