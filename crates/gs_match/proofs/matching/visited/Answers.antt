use Rattle.std.proofs.{Common.{rules}, lemmas.List.Sorted.{IsNonDecreasingBy-from_sort}}
use Rattle.gs_match.proofs.matching.visited.Goals as goal

pub returns-clause-sorted : goal.returns-clause-sorted
returns-clause-sorted c = IsNonDecreasingBy-from_sort (λ x. x) _ c.sort_unstable.ensures.sorted

pub returns-clause-same : goal.returns-clause-same
returns-clause-same c = search rules
