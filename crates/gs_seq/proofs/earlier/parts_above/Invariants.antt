use Rattle.std.proofs.Common.{◌≡◌, map, take, flat_map}
use Rattle.gs_seq.specs.Rows.{part_up, row_at}
use Rattle.gs_seq.proofs.earlier.parts_above.Given as goal

abbrev pub invariant-loop-class : goal.invariant-loop-class
invariant-loop-class l = l.parts.items ≡ flat_map (λ k. map (part_up l.classes l.round) (row_at l.rows k)) (take l.class-index l.below)
