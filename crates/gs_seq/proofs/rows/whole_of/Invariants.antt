use Rattle.std.proofs.Common.{◌≡◌, take}
use Rattle.gs_seq.specs.Rows.{IsModerate, whole_row}
use Rattle.gs_seq.proofs.rows.whole_of.Given as goal

abbrev pub invariant-loop-pair : goal.invariant-loop-pair
invariant-loop-pair l = record {
  all_is : l.all ≡ whole_row (take l.pair-index l.row);
  moderate : IsModerate l.all;
}
