use Rattle.std.proofs.Common.{◌≡◌, take}
use Rattle.gs_model.specs.Rows.{rows}
use Rattle.gs_lossless.specs.Stopped.{stopped_lists}
use Rattle.gs_lossless.proofs.stopped.stopped_lists.Given as goal

abbrev pub invariant-loop-place : goal.invariant-loop-place
invariant-loop-place l = rows l.stopped.items ≡ take l.place (stopped_lists l.fn.classes.lists l.fn.round)
