use Rattle.std.proofs.Common.{◌<◌, ◌-◌, ℕ}
use Rattle.gs_model.specs.{Classes.{list_of}, Rows.{rows}}
use Rattle.gs_filter.specs.Faults.{AreTogether}
use Rattle.gs_filter.proofs.apart.first_apart.Given as goal

abbrev pub invariant-loop-round : goal.invariant-loop-round
invariant-loop-round l = (r : ℕ) → 1 < r → r < l.round → AreTogether (list_of (rows l.parents) r) (list_of (rows l.lists) (r - 1)) (list_of (rows l.lists) r)
