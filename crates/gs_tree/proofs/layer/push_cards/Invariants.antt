use Rattle.std.proofs.Common.{◌≡◌, ◌++◌, ◌*◌, map}
use Rattle.gs_model.specs.Cards.{ways}
use Rattle.gs_tree.specs.{Layers.{showing}, Shown.{cards_of, seen_of}}
use Rattle.gs_tree.proofs.OneCard.{cards_to}
use Rattle.gs_tree.proofs.layer.push_cards.Given as goal

abbrev pub invariant-loop-kind : goal.invariant-loop-kind
invariant-loop-kind l = record {
  shown : map seen_of l.layer.shown.items ≡ map seen_of l.fn.layer.shown.items ++ map (showing (cards_of l.own)) (cards_to l.rest l.kind);
  edges : l.layer.edges ≡ l.fn.layer.edges ++ map (λ g. l.own_ways * ways l.rest g) (cards_to l.rest l.kind);
  firsts : l.layer.firsts.items ≡ l.fn.layer.firsts.items;
}
