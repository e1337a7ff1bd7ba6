use Rattle.std.proofs.Common.{◌≡◌, ◌++◌, take, drop}
use Rattle.gs_json.specs.FirstLine.{first_line}
use Rattle.gs_json.proofs.parted.first_line.Given as goal

abbrev pub invariant-loop-i : goal.invariant-loop-i
invariant-loop-i l = first_line l.bytes ≡ (take l.i l.bytes ++ (first_line (drop l.i l.bytes)).0, (first_line (drop l.i l.bytes)).1)
