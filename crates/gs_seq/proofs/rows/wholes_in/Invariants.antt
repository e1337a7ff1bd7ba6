use Rattle.std.proofs.Common.{◌≡◌, Vec, map, take}
use Rattle.std.specs.declared.alloc.Global.{Global}
use Rattle.gs_seq.specs.{Rows.{whole_row}, declared.pair.Pair.{Pair}}
use Rattle.gs_seq.proofs.rows.wholes_in.Given as goal

abbrev pub invariant-loop-row : goal.invariant-loop-row
invariant-loop-row l = l.wholes.items ≡ map (λ (r : Vec Pair Global). whole_row r.items) (take l.row-index l.rows)
