use Rattle.std.proofs.Common.{◌≡◌, All, take}
use Rattle.gs_seq.specs.Rows.{IsModerate, gathered}
use Rattle.gs_seq.proofs.rows.row_of.Given as goal

abbrev pub invariant-loop-part : goal.invariant-loop-part
invariant-loop-part l = record {
  row_is : l.row.items ≡ gathered l.members (take l.part-index l.sums);
  moderate : All IsModerate l.row.items;
}
