use Rattle.std.proofs.Common.{◌≡◌, ◌++◌, map, take}
use Rattle.gs_seq.specs.Rows.{part_up}
use Rattle.gs_seq.proofs.earlier.push_above.Given as goal

abbrev pub invariant-loop-pair : goal.invariant-loop-pair
invariant-loop-pair l = l.parts.items ≡ l.fn.parts.items ++ map (part_up l.classes l.round) (take l.pair-index l.row)
