use Rattle.std.proofs.Common.{◌≡◌, length, map, ap, ◌∙◌, arith}
use Rattle.std.specs.List.{range_with_len}
use Rattle.gs_card.specs.Decks.{kinds}
use Rattle.gs_model.specs.Outcome.{suit_of}
use Rattle.gs_rank.proofs.Kept.{kept_more}
use Rattle.gs_rank.proofs.ranker.suits_of.Goals as goal

pub loop-kind-preserved : goal.loop-kind-preserved
loop-kind-preserved c =
    let suits = length c.args.deck.now.suits in
    let is : c.suit.result ≡ suit_of suits c.loop-kind.kind = c.suit.ensures.suit ∙ ap (suit_of suits) c.new.ensures in
    kept_more (suit_of suits) c.loop-kind.kind c.suit.result c.loop-kind.suits.items c.push.new.self.items c.in_ok-push.ensures.items c.loop-kind.invariant is

pub returns : goal.returns
returns c =
    let end : c.loop-kind.kind ≡ kinds c.args.deck.now = omega (arith, c.kinds-kinds.ensures.number) in
    c.loop-kind.invariant ∙ ap (λ n. map (suit_of (length c.args.deck.now.suits)) (range_with_len 0 n)) end
