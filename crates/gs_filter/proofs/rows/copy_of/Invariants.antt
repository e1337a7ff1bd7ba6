use Rattle.std.proofs.Common.{◌≡◌, take}
use Rattle.gs_model.specs.Rows.{rows}
use Rattle.gs_filter.proofs.rows.copy_of.Given as goal

abbrev pub invariant-loop-list : goal.invariant-loop-list
invariant-loop-list l = rows l.copy.items ≡ rows (take l.list-index l.lists)
