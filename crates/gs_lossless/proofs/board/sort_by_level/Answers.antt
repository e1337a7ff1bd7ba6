use Rattle.std.proofs.{Common.{rules}, lemmas.List.Sorted.{IsNonDecreasingBy-from_sort_by_key}}
use Rattle.gs_lossless.specs.declared.board.Seat.{Seat}
use Rattle.gs_lossless.proofs.board.sort_by_level.Goals as goal

pub returns-clause-ascending : goal.returns-clause-ascending
returns-clause-ascending c = IsNonDecreasingBy-from_sort_by_key (λ (s : Seat). s.level) _ c.sort_unstable_by_key.ensures.sorted (λ a r q k. search rules)
