use Rattle.std.proofs.Common.{◌≡◌, ◌*◌, ◌≤◌, sum_by, take}
use Rattle.gs_model.specs.Numbering.{greatest}
use Rattle.gs_split.proofs.splitting.class_total.Given as goal

abbrev pub invariant-loop-before : goal.invariant-loop-before
invariant-loop-before l = record {
  some : l.total ≡ sum_by greatest (take l.before l.classes.lists);
  few : l.total ≤ l.before * 4294967295;
}
