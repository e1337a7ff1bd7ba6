use Rattle.std.proofs.Common.{◌≡◌, pos, take}
use Rattle.std.specs.Prelude.{◌*ℤ◌}
use Rattle.gs_game.specs.Seen.{end_kind_of}
use Rattle.gs_model.specs.Sums.{sum_z}
use Rattle.gs_seq.specs.{Payoffs.{weight_of}, declared.pair.Pair.{Pair}}
use Rattle.gs_seq.proofs.AlongRows.{number_to}
use Rattle.gs_seq.proofs.weighing.weights_along.Given as goal

abbrev pub invariant-loop-pair : goal.invariant-loop-pair
invariant-loop-pair l = l.sum ≡ sum_z (λ (p : Pair). pos (number_to l.numbers p) *ℤ weight_of (end_kind_of l.end.kind) p) (take l.pair-index l.row)
