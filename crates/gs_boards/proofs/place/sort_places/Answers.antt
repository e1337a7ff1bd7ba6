use Rattle.std.proofs.{Common.{rules}, lemmas.List.Sorted.{IsNonDecreasingBy-from_sort_by_key}}
use Rattle.gs_boards.specs.declared.place.Place.{Place}
use Rattle.gs_boards.proofs.place.sort_places.Goals as goal

pub returns-clause-rising : goal.returns-clause-rising
returns-clause-rising c =
    IsNonDecreasingBy-from_sort_by_key (λ (place : Place). place.strength) _ c.sort_unstable_by_key.ensures.sorted (λ a r q k. search rules)
