use Rattle.std.proofs.Common.{◌≡◌, ◌++◌, ◌*◌, map, take}
use Rattle.gs_model.specs.Cards.{groups, ways}
use Rattle.gs_tree.specs.{Layers.{showing}, Shown.{cards_of, seen_of}}
use Rattle.gs_tree.proofs.layer.push_publics.Given as goal

abbrev pub invariant-loop-public : goal.invariant-loop-public
invariant-loop-public l = record {
  shown : map seen_of l.layer.shown.items ≡ map seen_of l.fn.layer.shown.items ++ map (showing (cards_of l.own)) (take l.public-index (groups l.rest l.size));
  edges : l.layer.edges ≡ l.fn.layer.edges ++ map (λ g. l.own_ways * ways l.rest g) (take l.public-index (groups l.rest l.size));
  firsts : l.layer.firsts.items ≡ l.fn.layer.firsts.items;
}
