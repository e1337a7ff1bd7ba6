use Rattle.std.proofs.Common.{◌≡◌, filter, map, take}
use Rattle.gs_lossless.specs.Rivals.{is_other, part_against}
use Rattle.gs_lossless.proofs.rivals.parts_against.Given as goal

abbrev pub invariant-loop-rival : goal.invariant-loop-rival
invariant-loop-rival l = l.parts.items ≡ map (part_against l.strength) (filter (is_other l.signal) (take l.rival-index l.rivals))
