use Rattle.std.proofs.Common.{◌≡◌, ◌++◌, ◌*◌, ◌∙◌, ℕ, List, map, length, ap, sym, append-nil, arith, refl}
use Rattle.gs_model.specs.Cards.{ways}
use Rattle.gs_tree.specs.{Layers.{showing}, Shown.{cards_of, seen_of}}
use Rattle.gs_tree.proofs.OneCard.{added_more, all_cards}
use Rattle.gs_tree.proofs.layer.push_cards.Goals as goal

pub loop-kind-init : goal.loop-kind-init
loop-kind-init c = record {
  shown = sym (append-nil (map seen_of c.args.layer.now.shown.items));
  edges = sym (append-nil c.args.layer.now.edges);
  firsts = refl;
}

pub loop-kind-preserved : goal.loop-kind-preserved
loop-kind-preserved c =
    let rest : List ℕ = c.args.rest.now in
    let n : ℕ = c.loop-kind.kind in
    record {
      shown = added_more (showing (cards_of c.args.own.now)) rest n (map seen_of c.args.layer.now.shown.items) (map seen_of c.loop-kind.layer.shown.items)
          (map seen_of c.push_card.new.layer.shown.items)
          c.loop-kind.invariant.shown c.in_ok-push_card.ensures.shown;
      edges = added_more (λ g. c.args.own_ways * ways rest g) rest n c.args.layer.now.edges c.loop-kind.layer.edges c.push_card.new.layer.edges
          c.loop-kind.invariant.edges c.in_ok-push_card.ensures.edges;
      firsts = c.in_ok-push_card.ensures.firsts ∙ c.loop-kind.invariant.firsts;
    }

pub returns : goal.returns
returns c =
    let rest : List ℕ = c.args.rest.now in
    let done : c.loop-kind.kind ≡ length rest = omega arith in
    let all = all_cards rest c.loop-kind.kind done in
    record {
      shown = c.loop-kind.invariant.shown ∙ ap (λ l. map seen_of c.args.layer.now.shown.items ++ map (showing (cards_of c.args.own.now)) l) all;
      firsts = c.loop-kind.invariant.firsts;
      edges = c.loop-kind.invariant.edges ∙ ap (λ l. c.args.layer.now.edges ++ map (λ g. c.args.own_ways * ways rest g) l) all;
    }
