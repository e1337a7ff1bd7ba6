use Rattle.std.proofs.Common.{◌≡◌}
use Rattle.std.specs.List.{range_with_len}
use Rattle.gs_model.specs.Sums.{sum_z}
use Rattle.gs_play.specs.Lines.{line_at, wrapped}
use Rattle.gs_play.proofs.tally.sum_of.Given as goal

abbrev pub invariant-loop-line : goal.invariant-loop-line
invariant-loop-line l = record {
  at_is : l.all.at ≡ wrapped (sum_z (λ m. (line_at l.lines m).at) (range_with_len 0 l.line-index));
  slope_is : l.all.slope ≡ wrapped (sum_z (λ m. (line_at l.lines m).slope) (range_with_len 0 l.line-index));
}
