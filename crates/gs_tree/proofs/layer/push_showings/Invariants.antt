use Rattle.std.proofs.Common.{◌≡◌, ◌++◌, ◌*◌, map, take}
use Rattle.std.specs.Prelude.{flat_map}
use Rattle.gs_model.specs.Cards.{groups, ways, left_after}
use Rattle.gs_tree.specs.{Layers.{showing}, Shown.{seen_of}}
use Rattle.gs_tree.proofs.layer.push_showings.Given as goal

abbrev pub invariant-loop-own : goal.invariant-loop-own
invariant-loop-own l = record {
  shown : map seen_of l.layer.shown.items ≡ map seen_of l.fn.layer.shown.items
      ++ flat_map (λ own. map (showing own) (groups (left_after l.left own) l.round.public)) (take l.own-index (groups l.left l.round.private));
  edges : l.layer.edges ≡ l.fn.layer.edges ++ flat_map (λ own. map (λ g. ways l.left own * ways (left_after l.left own) g)
      (groups (left_after l.left own) l.round.public)) (take l.own-index (groups l.left l.round.private));
  firsts : l.layer.firsts.items ≡ l.fn.layer.firsts.items;
}
