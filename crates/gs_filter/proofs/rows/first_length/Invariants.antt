use Rattle.std.proofs.Common.{◌<◌, ℕ}
use Rattle.gs_model.specs.Rows.{rows}
use Rattle.gs_filter.specs.Faults.{AgreeIn}
use Rattle.gs_filter.proofs.rows.first_length.Given as goal

abbrev pub invariant-loop-round : goal.invariant-loop-round
invariant-loop-round l = (r : ℕ) → 0 < r → r < l.round → AgreeIn (rows l.parents) (rows l.lists) r
