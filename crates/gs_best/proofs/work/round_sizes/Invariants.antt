use Rattle.std.proofs.Common.{◌≡◌, ℕ, map}
use Rattle.std.specs.List.{range_with_len}
use Rattle.gs_model.specs.Classes.{class_count}
use Rattle.gs_seq.specs.Abstracts.{abstract_frame, lists_of}
use Rattle.gs_best.specs.{Rounds.{size_of}, Sizes.{points_of_round}}
use Rattle.gs_best.proofs.work.round_sizes.Given as goal

abbrev pub invariant-loop-before : goal.invariant-loop-before
invariant-loop-before l = map size_of l.sizes.items ≡ map {B = ℕ × ℕ}
    (λ round. (points_of_round (abstract_frame l.form) round, class_count (lists_of l.form) round))
    (range_with_len 1 l.before)
