use Rattle.std.proofs.Common.{◌≡◌, take}
use Rattle.gs_model.specs.Rows.{rows}
use Rattle.gs_filter.specs.Filter.{single_classes}
use Rattle.gs_filter.proofs.rows.counted.Given as goal

abbrev pub invariant-loop-list : goal.invariant-loop-list
invariant-loop-list l = rows l.numbers.items ≡ single_classes (rows (take l.list-index l.lists))
