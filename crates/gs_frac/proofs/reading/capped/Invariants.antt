use Rattle.std.proofs.Common.{◌≡◌, ◌^◌, take, min}
use Rattle.std.specs.Str.Parse.{digits_value}
use Rattle.gs_frac.proofs.reading.capped.Given as goal

abbrev pub invariant-loop-b : goal.invariant-loop-b
invariant-loop-b l = l.value ≡ min (digits_value 10 (take l.b-index l.bytes)) (2 ^ 127)
