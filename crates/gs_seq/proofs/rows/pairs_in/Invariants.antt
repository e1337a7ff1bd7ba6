use Rattle.std.proofs.Common.{◌≡◌, take}
use Rattle.gs_seq.specs.Rows.{pairs_of}
use Rattle.gs_seq.proofs.rows.pairs_in.Given as goal

abbrev pub invariant-loop-row : goal.invariant-loop-row
invariant-loop-row l = l.count ≡ pairs_of (take l.row-index l.rows)
