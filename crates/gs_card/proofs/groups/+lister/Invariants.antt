use Rattle.std.proofs.Common.{◌≡◌, ◌+◌, ◌++◌, map, ◌-◌, ◌*◌, vec_len}
use Rattle.std.specs.List.{flat_map, range_with_len}
use Rattle.gs_model.specs.Cards.{groups_above, groups_with}
use Rattle.gs_card.proofs.groups.+lister.Given as goal

abbrev pub decreases-push_groups : goal.decreases-push_groups
decreases-push_groups l = 2 * l.size + 1

abbrev pub decreases-push_with : goal.decreases-push_with
decreases-push_with l = 2 * l.size + 2

abbrev pub invariant-push_groups-loop-card : goal.invariant-push_groups-loop-card
invariant-push_groups-loop-card l = record {
  found : l.out.items ≡ l.fn.out.items ++ map (λ g. l.fn.front.items ++ g)
      (flat_map (groups_with (groups_above (l.size - 1)) l.fn.left.items) (range_with_len l.fn.least (l.card - l.fn.least)));
  front_kept : l.front.items ≡ l.fn.front.items;
  left_kept : l.left.items ≡ l.fn.left.items;
  same_len : vec_len l.left ≡ vec_len l.fn.left;
}
